-- Believed: the program's answer stands on these definitions.
-- That no service gets more than its share in a frame (CTA-708-E: service blocks).
use Rattle.std.specs.Prelude.{◌≡◌, ℕ, suc, ◌<◌, ◌≤◌, List, ◌∷◌, ◌++◌, length, map, take}
use Rattle.cc_base.specs.declared.rate.Rate.{Rate}
use Rattle.cdp_packets.specs.Packets.{Frame}
use Rattle.dtvcc_screen.specs.Meaning.{Byte, Tick}
use Rattle.cc_receiver.specs.Events.{service_events}

-- in a frame a service gets a tick of the rate, and after it at most this many bytes
pub record IsToldAtMost (rate : Rate) (most : ℕ) (packets : List Frame) (service frame : ℕ) : Type 0 where
  pub bytes : List ℕ
  pub events : service_events service (take (suc frame) packets) ≡ service_events service (take frame packets) ++ (Tick rate ∷ map Byte bytes)
  pub within : length bytes ≤ most

-- in each of this many frames each service gets at most its share of bytes
abbrev pub AreSharesKept : Rate → (ℕ → ℕ) → ℕ → List Frame → Type 0
AreSharesKept rate share n packets = (service frame : ℕ) → frame < n → IsToldAtMost rate (share service) packets service frame
