-- Believed in part: the program's answer stands on some of these definitions.
-- Events of a field's lane: control pairs at slots of their own, each in that slot and in the next.
use Rattle.std.specs.Prelude.{◌≢◌, ℕ, ◌+◌, ◌≤◌, ◌==◌, true, List, [], ◌∷◌, Some, None, if◌then◌else◌, ⊤}
use Rattle.line21_author.specs.declared.event.Event.{Event}
use Rattle.lanes.specs.Timeline.{Timeline}

-- no event holds slot n
abbrev pub IsFree : List Event → ℕ → Type 0
IsFree [] n = ⊤
IsFree (event ∷ events) n = (event.slot ≢ n) × (event.slot + 1 ≢ n) × IsFree events n

-- each event has ended before slot n
abbrev pub AreOver : ℕ → List Event → Type 0
AreOver n [] = ⊤
AreOver n (event ∷ events) = (event.slot + 2 ≤ n) × AreOver n events

-- the timeline on which each event begins at its slot
abbrev pub event_at : List Event → Timeline
event_at [] n = None
event_at (event ∷ events) n = if n == event.slot then Some (record { pair = event.pair; doubled = true }) else event_at events n
