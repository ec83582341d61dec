-- Believed in part: the program's answer stands on some of these definitions.
-- The units of cues, each with the first unit of its cue.
use Rattle.std.specs.Prelude.{◌≡◌, ⊤, ℕ, true, false, List, [], ◌∷◌}
use Rattle.lanes.specs.FieldLane.{slots_of}
use Rattle.dual_fields.specs.declared.part.Part.{Part}

-- the slots of the unit
abbrev pub part_slots : Part → ℕ
part_slots part = slots_of part.chunk

-- the number of its cue
abbrev pub part_cue : Part → ℕ
part_cue part = part.chunk.cue

-- a cue's first unit is doubled
abbrev pub IsBegun : Part → Type 0
IsBegun part = part.later ≡ false → part.chunk.unit.doubled ≡ true

-- the first unit of all is its cue's first
abbrev pub BeginWithFirst : List Part → Type 0
BeginWithFirst [] = ⊤
BeginWithFirst (part ∷ parts) = part.later ≡ false
