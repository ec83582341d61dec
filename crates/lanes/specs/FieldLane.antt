-- Believed: the program's answer stands on these definitions.
-- A field's lane: where a unit of a cue may stand in line 21 (CTA-608-E, 47 CFR 79.101).
use Rattle.std.specs.Prelude.{ℕ, ◌+◌, ◌<◌, ◌≤◌, if◌then◌else◌, List, fold}
use Rattle.line21_author.specs.declared.event.Event.{Event}
use Rattle.lanes.specs.declared.chunk.FieldChunk.{FieldChunk}
use Rattle.lanes.specs.LaneEvents.{IsFree}

-- the slots of a chunk's unit: one, or two where it is doubled
abbrev pub slots_of : FieldChunk → ℕ
slots_of chunk = if chunk.unit.doubled then 2 else 1

-- the first slot after the units placed so far
abbrev pub end_of : List (FieldChunk × ℕ) → ℕ
end_of before = fold (λ (end : ℕ) (placed : FieldChunk × ℕ). placed.1 + slots_of placed.0) 0 before

-- the unit may begin at the slot, where `end` is the first slot after the units before it
pub record IsAllowedInField (events : List Event) (end : ℕ) (chunk : FieldChunk) (slot : ℕ) : Type 0 where
  pub behind : end ≤ slot
  pub loaded : chunk.load ≤ slot
  pub ended : slot + slots_of chunk ≤ chunk.until
  pub free : (n : ℕ) → slot ≤ n → n < slot + slots_of chunk → IsFree events n

-- what the lane allows, for the placements of its units
abbrev pub field_lane : List Event → List (FieldChunk × ℕ) → FieldChunk → ℕ → Type 0
field_lane events before chunk slot = IsAllowedInField events (end_of before) chunk slot
