-- Believed: the program's answer stands on these definitions.
-- The slots of a field that two lists share: for the lane of the first list, which is placed first, and for the second list's lane.
use Rattle.std.specs.Prelude.{ℕ, zero, suc, ◌&&◌, ◌||◌, not, is_some, Bool}
use Rattle.lanes.specs.Timeline.{Timeline}
use Rattle.dual_fields.specs.Slots.{Slots}

-- an event holds the slot in which it begins and the next one
abbrev pub holds : Timeline → ℕ → Bool
holds events zero = is_some (events zero)
holds events (suc n) = is_some (events (suc n)) || is_some (events n)

-- the slots of the first lane: the second list's events are foreign
abbrev pub first_slots : Timeline → Timeline → Slots
first_slots one two = record {
  free = λ n. not (holds one n) && not (holds two n);
  foreign = λ n. holds two n;
}

-- the second lane's slots: the first list's events and its spans are foreign
abbrev pub second_slots : Timeline → Timeline → (ℕ → Bool) → Slots
second_slots one two spans = record {
  free = λ n. not (holds one n) && (not (holds two n) && not (spans n));
  foreign = λ n. holds one n || spans n;
}
