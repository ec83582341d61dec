-- Units of a field's lane that have two slots each, one after another, stand there, where no event holds these slots.
use Rattle.std.proofs.Common.{ℕ, ◌+◌, ◌*◌, ◌<◌, ◌≤◌, Bool, true, false, if◌then◌else◌, List, [], ◌∷◌, ◌++◌, length, arith}
use Rattle.std.specs.List.{AllByRecursion}
use Rattle.line21_author.specs.declared.event.Event.{Event}
use Rattle.lanes.specs.Placing.{IsPlaced}
use Rattle.lanes.specs.FieldLane.{end_of, field_lane, slots_of}
use Rattle.lanes.specs.LaneEvents.{IsFree}
use Rattle.lanes.specs.declared.chunk.FieldChunk.{FieldChunk}
use Rattle.lanes.proofs.FieldLaneLemmas.{end_push}

-- a unit has two slots at most
two_at_most : (chunk : FieldChunk) → slots_of chunk ≤ 2
two_at_most chunk = at chunk.unit.doubled
  where
    at : (doubled : Bool) → (if doubled then 2 else 1) ≤ 2
    at true = omega arith
    at false = omega arith

-- a unit that may stand in these slots
pub record IsWithin (low high : ℕ) (chunk : FieldChunk) : Type 0 where
  pub load : chunk.load ≤ low
  pub until : high ≤ chunk.until

-- units after others have a placement
abbrev pub HasSlotsBehind : List Event → List (FieldChunk × ℕ) → List FieldChunk → Type 0
HasSlotsBehind events before chunks = (slots : List ℕ) × IsPlaced (field_lane events) before chunks slots

-- units that have two slots each from a slot on, and those after them
pub two_each : (events : List Event) (low high from : ℕ) (chunks later : List FieldChunk) (before : List (FieldChunk × ℕ)) → end_of before ≤ from → low ≤ from
    → from + 2 * length chunks ≤ high → AllByRecursion (IsWithin low high) chunks → ((n : ℕ) → low ≤ n → n < high → IsFree events n)
    → ((after : List (FieldChunk × ℕ)) → end_of after ≤ high → HasSlotsBehind events after later) → HasSlotsBehind events before (chunks ++ later)
two_each events low high from [] later before behind least fits within free rest = rest before (omega arith)
two_each events low high from (chunk ∷ chunks) later before behind least fits within free rest =
    let slots = two_at_most chunk in
    let loaded = within.0.load in
    let until = within.0.until in
    let end = end_push before chunk from in
    let more = two_each events low high (from + 2) chunks later (before ++ (chunk, from) ∷ []) (omega (arith, slots, end)) (omega arith) (omega arith)
    within.1 free rest in (
      from ∷ more.0,
      (
        record {
          behind = behind;
          loaded = omega arith;
          ended = omega arith;
          free = λ n low_n high_n. free n (omega arith) (omega arith);
        },
        more.1,
      ),
    )
