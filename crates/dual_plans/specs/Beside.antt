-- Between crates: the program's answer stands on none of these definitions.
-- The pair of a frame in a field that two lanes share, and how long lanes last.
use Rattle.std.specs.Prelude.{ℕ, ◌-◌, ◌^◌, min, Option, Some, None}
use Rattle.line21_codes.specs.declared.pairs.Pair.{Pair}
use Rattle.lanes.specs.FieldPlan.{PlannedField}
use Rattle.dual_fields.specs.Overlay.{overlay}

-- the first list's pair, and where it is null the second's; none where the frame has no slot of the field
abbrev pub beside : Option Pair → Option Pair → Option Pair
beside None second = None
beside (Some first) None = Some first
beside (Some first) (Some second) = Some (overlay first second)

-- slots and frames are counted below 2^32
abbrev pub lanes_last : PlannedField → PlannedField → ℕ → ℕ
lanes_last one two frame = min (2 ^ 32 - 1 - frame) (min (2 ^ 32 - 1 - one.slot) (2 ^ 32 - 1 - two.slot))
