-- Between crates: the program's answer stands on none of these definitions.
-- The cursor of a field's lane: what it knows at its slot of the units and events that are to come.
use Rattle.std.specs.Prelude.{◌≡◌, ℕ, ◌+◌, ◌<◌, ◌≤◌, List, [], ◌∷◌, Option, Some, None, length, drop, ⊤}
use Rattle.line21_codes.specs.declared.pairs.Pair.{Pair}
use Rattle.line21_author.specs.EventOrder.{AreFrom, AreApart}
use Rattle.line21_author.specs.declared.event.Event.{Event}
use Rattle.line21_author.specs.declared.unit.Unit.{Unit}
use Rattle.lanes.specs.LaneEvents.{event_at}
use Rattle.lanes.specs.LaneTimeline.{unit_at}
use Rattle.lanes.specs.Timeline.{IsSpaced, Timeline, over, repeat_at, slot}
use Rattle.lanes.specs.declared.field_cursor.Cursor.{Cursor}
use Rattle.lanes.specs.declared.placed_unit.PlacedUnit.{PlacedUnit}

-- each unit begins at slot n or later
abbrev pub AreUnitsFrom : ℕ → List PlacedUnit → Type 0
AreUnitsFrom n [] = ⊤
AreUnitsFrom n (placed ∷ units) = (n ≤ placed.slot) × AreUnitsFrom n units

-- the units are in the order of their slots
abbrev pub AreUnitsRising : List PlacedUnit → Type 0
AreUnitsRising [] = ⊤
AreUnitsRising (placed ∷ units) = AreUnitsFrom (placed.slot + 1) units × AreUnitsRising units

-- from the slot on, the timeline has just these events and units, none of which begins in one slot with another; and nothing
-- begins in a repeat
pub record IsAhead (timeline : Timeline) (events : List Event) (units : List PlacedUnit) (from : ℕ) (repeat : Option Pair) : Type 0 where
  pub same : (n : ℕ) → from ≤ n → timeline n ≡ over (event_at events) (unit_at units) n
  pub due : repeat_at timeline from ≡ repeat
  pub spaced : IsSpaced timeline
  pub events_from : AreFrom from events
  pub events_apart : AreApart events
  pub units_from : AreUnitsFrom from units
  pub units_rising : AreUnitsRising units
  pub beside : (n : ℕ) (unit : Unit) → event_at events n ≡ Some unit → unit_at units n ≡ None

-- the cursor is ready to give the timeline's slots from its own on
abbrev pub IsReadyForPairs : Timeline → List Event → List PlacedUnit → Cursor → Type 0
IsReadyForPairs timeline events units cursor =
    IsAhead timeline (drop cursor.next_event events) (drop cursor.next_unit units) cursor.slot cursor.repeat

-- one step gives the pair of the cursor's slot and leaves it ready for the next
pub record GivesSlot (timeline : Timeline) (events : List Event) (units : List PlacedUnit) (old new : Cursor) (pair : Pair) : Type 0 where
  pub pair_is : pair ≡ slot timeline old.slot
  pub ready : IsReadyForPairs timeline events units new

-- the element stands next in the list, at number k
pub record IsNext {T : Type 0} (xs : List T) (k : ℕ) (x : T) : Type 0 where
  pub within : k < length xs
  pub splits : drop k xs ≡ x ∷ drop (k + 1) xs
