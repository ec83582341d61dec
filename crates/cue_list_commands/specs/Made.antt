-- Between crates: the program's answer stands on none of these definitions.
-- The programme that is made of accepted bytes.
use Rattle.std.specs.Prelude.{ℕ, List}
use Rattle.frame_carrier.specs.Columns.{Columns}
use Rattle.frame_carrier.specs.Framing.{Framing, HasFraming}
use Rattle.frame_carrier.specs.declared.programme.Programme.{Programme}

-- the programme is the programme of what the bytes are accepted as
pub record IsProgrammeOf {A F : Type 0} (IsAccepted : List ℕ → A → Type 0) (framing_of : A → Framing) (left : F → ℕ) (Gives : Columns → ℕ → F → Type 0) (bytes : List ℕ) (programme : Programme F) : Type 0 where
  pub made : A
  pub accepted : IsAccepted bytes made
  pub framing : HasFraming left Gives (framing_of made) programme
