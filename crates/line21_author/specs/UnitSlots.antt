-- Between crates: the program's answer stands on none of these definitions.
-- The slots that a unit takes: one, or two where it is doubled (CTA-608-E, 47 CFR 79.101).
use Rattle.std.specs.Prelude.{ℕ, if◌then◌else◌, Option, Some, None}
use Rattle.line21_codes.specs.declared.pairs.Pair.{Pair}
use Rattle.line21_author.specs.declared.unit.Unit.{Unit}

-- the number of slots of a unit
abbrev pub unit_slots : Unit → ℕ
unit_slots unit = if unit.doubled then 2 else 1

-- the pair that is due once more, after the slot in which a unit begins
abbrev pub repeat_of_unit : Unit → Option Pair
repeat_of_unit unit = if unit.doubled then Some unit.pair else None
