-- Between crates: the program's answer stands on none of these definitions.
-- The screen of a service as if nothing were ever put off: each command acts when it comes, and what a delay puts off acts in
-- the frame in which the delay starts.
use Rattle.std.specs.Prelude.{ℕ, zero, suc, List, [], ◌∷◌, Option, Some, None}
use Rattle.dtvcc_author.specs.declared.frame_events.Delay.{Delay}
use Rattle.dtvcc_codes.specs.Reading.{completions}
use Rattle.dtvcc_screen.specs.Laws.{on_screen_all}
use Rattle.dtvcc_screen.specs.Screens.{ScreenState, empty_screen}
use Rattle.windows_shown.specs.ServiceLanes.{Lane}

-- what whole plain bytes do to a screen, command after command
abbrev pub acted_on : List ℕ → ScreenState → ScreenState
acted_on bytes s = on_screen_all (completions [] bytes) s

-- DisplayWindows of a delay
abbrev pub shows_bytes : Option Delay → List ℕ
shows_bytes None = []
shows_bytes (Some delay) = 0x89 ∷ delay.windows ∷ []

-- the screen before a frame, as if nothing were ever put off
abbrev pub undelayed : Lane → ℕ → ScreenState
undelayed lane zero = empty_screen
undelayed lane (suc frame) =
    acted_on (lane.loads frame) (acted_on (shows_bytes (lane.delay frame)) (acted_on (lane.events frame) (undelayed lane frame)))

-- the screen after the events of a frame that come before its delay
abbrev pub opened : Lane → ℕ → ScreenState
opened lane frame = acted_on (lane.events frame) (undelayed lane frame)
