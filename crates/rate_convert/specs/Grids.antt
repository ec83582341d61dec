-- Believed: the program's answer stands on these definitions.
-- What is seen of frames and of what they become at 59.94: the grids of line 21 and the windows of the services (CTA-608-E; CTA-708-E).
use Rattle.std.specs.Prelude.{◌≡◌, ◌≢◌, ℕ, ◌+◌, ◌<◌, List}
use Rattle.cc_receiver.specs.ReceivedServices.{received_windows}
use Rattle.cdp_packets.specs.Packets.{Frame}
use Rattle.dtvcc_services.specs.Numbers.{IsService}
use Rattle.findings.specs.declared.finding.Which.{Which}
use Rattle.findings.specs.declared.finding.Which.TheVariants as which
use Rattle.rate_convert.specs.Conversion.{conversion}
use Rattle.line21_codes.specs.declared.channels.Chan.{Chan}
use Rattle.line21_codes.specs.declared.channels.Chan.TheVariants.{Cc1, Cc2, Cc3, Cc4}
use Rattle.words_files.specs.Received.{received_grids}

-- what the frames become shows the same after the last of them: each channel and each service
pub record KeepsGrids (frames : List Frame) : Type 0 where
  pub channels : (chan : Chan) → received_grids (conversion frames) chan ≡ received_grids frames chan
  pub services : (service : ℕ) → IsService service → (id : ℕ) → id < 8 → received_windows (conversion frames) service id ≡ received_windows frames service id

-- the channel, or the service of 1 to 63, shows something else
abbrev pub IsChanged : List Frame → Which → Type 0
IsChanged frames (which.Chan chan) = received_grids (conversion frames) chan ≢ received_grids frames chan
IsChanged frames (which.Service service) =
    IsService service × ((id : ℕ) × (id < 8) × (received_windows (conversion frames) service id ≢ received_windows frames service id))

-- the order of CC1 to CC4 and S1 to S63
abbrev pub grid_place : Which → ℕ
grid_place (which.Chan Cc1) = 0
grid_place (which.Chan Cc2) = 1
grid_place (which.Chan Cc3) = 2
grid_place (which.Chan Cc4) = 3
grid_place (which.Service service) = 3 + service
