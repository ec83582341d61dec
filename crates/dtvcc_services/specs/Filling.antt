-- Believed: the program's answer stands on these definitions.
-- Whether the input buffer of a service is filled in a frame (CTA-708-E, the service input buffer).
use Rattle.std.specs.Prelude.{◌==◌, ◌||◌, Bool, false, List, [], ◌∷◌}
use Rattle.dtvcc_screen.specs.Cores.{fill}
use Rattle.dtvcc_screen.specs.Meaning.{Event, Served, Byte, on_event}

-- an event is a byte that brings the held bytes to 128
abbrev pub is_filled_by : Served → Event → Bool
is_filled_by s (Byte byte) = fill byte s.core == 128
is_filled_by s _ = false

-- one of the events is
abbrev pub is_filled : Served → List Event → Bool
is_filled s [] = false
is_filled s (event ∷ events) = is_filled_by s event || is_filled (on_event event s) events
