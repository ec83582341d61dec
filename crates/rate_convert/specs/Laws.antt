-- Between crates: the program's answer stands on none of these definitions.
-- What the laws say of frames that are converted.
use Rattle.std.specs.Prelude.{◌≡◌, ℕ, suc, ◌+◌, ◌*◌, ◌<◌, List, take, length}
use Rattle.cc_receiver.specs.ReceivedServices.{received_windows}
use Rattle.cdp_packets.specs.Packets.{Frame}
use Rattle.dtvcc_screen.specs.Meaning.{start}
use Rattle.dtvcc_services.specs.Numbers.{IsService}
use Rattle.findings.specs.declared.misfit.Misfit.{Misfit}
use Rattle.findings.specs.declared.misfit.MisfitKind.{MisfitKind}
use Rattle.rate_convert.specs.Conversion.{IsConvertible, conversion}
use Rattle.rate_convert.specs.UndelayedServices.{AreUndelayed}
use Rattle.line21_codes.specs.declared.channels.Chan.{Chan}
use Rattle.services_files.specs.Events.{service_events}
use Rattle.words_files.specs.Received.{received_grids}
use Rattle.rate_convert.specs.Misfits.{AreFit, Holds, IsFit, IsMisfitAt}
use Rattle.std.specs.Prelude.{All}

-- a frame that is fit has no misfit
abbrev pub FitHasNone : Type 0
FitHasNone = (earlier : List Frame) (frame : Frame) (kind : MisfitKind) → IsFit earlier frame → Holds earlier frame kind → ⊥

-- a frame has one misfit at most
abbrev pub MisfitIsOne : Type 0
MisfitIsOne = (earlier : List Frame) (frame : Frame) (one other : Misfit) → IsMisfitAt earlier frame one → IsMisfitAt earlier frame other → one ≡ other

-- where no frame has a misfit, what is seen at the output's frame 2 f + 1 is what is seen at the frame f
pub record KeepAllGrids (frames : List Frame) (f : ℕ) : Type 0 where
  pub channels : (chan : Chan) → received_grids (take (suc (2 * f + 1)) (conversion frames)) chan ≡ received_grids (take (suc f) frames) chan
  pub services : (service id : ℕ) → IsService service → id < 8
      → received_windows (take (suc (2 * f + 1)) (conversion frames)) service id ≡ received_windows (take (suc f) frames) service id

abbrev pub FitKeepsGrids : Type 0
FitKeepsGrids = (frames : List Frame) → AreFit frames → (f : ℕ) → f < length frames → KeepAllGrids frames f

-- where no service gets a delay, frames that can be converted have no misfit
abbrev pub UndelayedAreFit : Type 0
UndelayedAreFit = (frames : List Frame) → All IsConvertible frames → ((service : ℕ) → IsService service → AreUndelayed start (service_events service frames)) → AreFit frames
