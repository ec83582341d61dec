-- Believed: the program's answer stands on these definitions.
-- How far the buffer of a service is filled by each byte of its events.
use Rattle.std.specs.Prelude.{ℕ, ◌≤◌, List, [], ◌∷◌, ⊤}
use Rattle.dtvcc_screen.specs.Cores.{fill}
use Rattle.dtvcc_screen.specs.Meaning.{Event, Tick, Byte, Reset, Served, on_event}

-- no byte fills it beyond this many
abbrev pub AllFill : ℕ → Served → List Event → Type 0
AllFill most s [] = ⊤
AllFill most s (Tick rate ∷ events) = AllFill most (on_event (Tick rate) s) events
AllFill most s (Byte byte ∷ events) = (fill byte s.core ≤ most) × AllFill most (on_event (Byte byte) s) events
AllFill most s (Reset ∷ events) = AllFill most (on_event Reset s) events
