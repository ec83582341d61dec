-- Between crates: the program's answer stands on none of these definitions.
-- The bytes of what a service is sent in a frame to hide and to show windows.
use Rattle.std.specs.Prelude.{ℕ, ◌==◌, if◌then◌else◌, List, [], ◌∷◌, ◌++◌, Option, Some, None}
use Rattle.dtvcc_author.specs.declared.frame_events.Delay.{Delay}
use Rattle.dtvcc_author.specs.declared.frame_events.FrameEvents.{FrameEvents}

-- a command for windows, if there are some
abbrev pub command_bytes : ℕ → ℕ → List ℕ
command_bytes command windows = if windows == 0 then [] else command ∷ windows ∷ []

-- a delay with what it puts off
abbrev pub delay_bytes : Option Delay → List ℕ
delay_bytes None = []
delay_bytes (Some delay) = 0x8D ∷ delay.tenths ∷ 0x89 ∷ delay.windows ∷ []

abbrev pub events_bytes : FrameEvents → List ℕ
events_bytes events = command_bytes 0x8C events.hidden ++ command_bytes 0x89 events.shown ++ delay_bytes events.delay
