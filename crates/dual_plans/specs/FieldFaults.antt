-- Between crates: the program's answer stands on none of these definitions.
-- The first cue without room in one of both fields, and why lanes aren't planned.
use Rattle.std.specs.Prelude.{⊤, ℕ, ◌<◌}
use Rattle.line21_codes.specs.declared.channels.FieldNumber.{FieldNumber}
use Rattle.lanes.specs.declared.planning.PlanFault.{PlanFault}
use Rattle.lanes.specs.declared.planning.PlanFault.TheVariants.{Memory, NoRoom}

-- up to the cue one of both fields has no room, and up to each earlier cue both have
pub record IsFirstOfFields (Has : FieldNumber → ℕ → Type 0) (cue : ℕ) : Type 0 where
  pub none : (in_field : FieldNumber) × (Has in_field cue → ⊥)
  pub first : (earlier : ℕ) → earlier < cue → (in_field : FieldNumber) → Has in_field earlier

-- memory ran out, or this cue is as said
abbrev pub IsFaultOf : (ℕ → Type 0) → PlanFault → Type 0
IsFaultOf Is (Memory error) = ⊤
IsFaultOf Is (NoRoom cue) = Is cue
