-- Between crates: the program's answer stands on none of these definitions.
-- The order of a channel's events: each is sent in two slots, one after the other.
use Rattle.std.specs.Prelude.{ℕ, ◌+◌, ◌≤◌, List, [], ◌∷◌, ⊤}
use Rattle.line21_author.specs.declared.event.Event.{Event}

-- each event is at slot n or later
abbrev pub AreFrom : ℕ → List Event → Type 0
AreFrom n [] = ⊤
AreFrom n (event ∷ events) = (n ≤ event.slot) × AreFrom n events

-- the events are in the order of their slots, and none begins before the one before it has ended
abbrev pub AreApart : List Event → Type 0
AreApart [] = ⊤
AreApart (event ∷ events) = AreFrom (event.slot + 2) events × AreApart events
