-- Between crates: the program's answer stands on none of these definitions.
-- A table of the slots of a field: the events of both lists hold theirs, each two from where it begins.
use Rattle.std.specs.Prelude.{◌≡◌, ℕ, ◌<◌, Bool, if◌then◌else◌, List, Option, Some, length, slice_get}
use Rattle.line21_author.specs.declared.event.Event.{Event}
use Rattle.lanes.specs.LaneEvents.{event_at}
use Rattle.dual_fields.specs.Agreeing.{Agree}
use Rattle.dual_fields.specs.FieldSlots.{first_slots, holds, second_slots}
use Rattle.dual_fields.specs.Slots.{slots_in}
use Rattle.dual_fields.specs.Spans.{covers, in_spans}
use Rattle.dual_fields.specs.declared.part.Part.{Part}
use Rattle.dual_fields.specs.declared.slot_use.SlotUse.{SlotUse}
use Rattle.dual_fields.specs.declared.slot_use.SlotUse.TheVariants.{Foreign}

-- the table of this many slots for the first lane, whose list has these events, beside the other list's
pub record IsTable (count : ℕ) (own others : List Event) (uses : List SlotUse) : Type 0 where
  pub count_is : length uses ≡ count
  pub agree : Agree count (first_slots (event_at own) (event_at others)) (slots_in uses)

-- the table for the second lane, beside the events of the first list and the spans of the first lane
pub record IsTableBeside (count : ℕ) (first own : List Event) (parts : List Part) (fs : List ℕ) (uses : List SlotUse) : Type 0 where
  pub count_is : length uses ≡ count
  pub agree : Agree count (second_slots (event_at first) (event_at own) (in_spans parts fs)) (slots_in uses)

abbrev pub use_in : Bool → SlotUse → Option SlotUse → Option SlotUse
use_in held value before = if held then Some value else before

-- events are marked in a table
pub record AreMarked (before behind : List SlotUse) (events : List Event) (value : SlotUse) : Type 0 where
  pub count : length behind ≡ length before
  pub uses : (n : ℕ) → n < length before → slice_get behind n ≡ use_in (holds (event_at events) n) value (slice_get before n)

-- the spans of a lane are marked in a table, step by step
pub record AreSpanned (before behind : List SlotUse) (parts : List Part) (fs : List ℕ) : Type 0 where
  pub count : length behind ≡ length before
  pub uses : (n : ℕ) → n < length before → slice_get behind n ≡ use_in (covers 0 parts fs n) Foreign (slice_get before n)
