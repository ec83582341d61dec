-- Believed in part: the library's answers stand on some of these definitions.
-- What the objects of the program stand for.
use Rattle.std.specs.Prelude.{◌≡◌, ℕ, ◌<◌, Bool, false, List, [], All, Option, Some, None, slice_get}
use Rattle.cc_base.specs.Steps.{front_from}
use Rattle.dtvcc_codes.specs.Reading.{completions, open_after}
use Rattle.dtvcc_codes.specs.Readers.{Keeps}
use Rattle.dtvcc_windows.specs.declared.window.Window.{Window}
use Rattle.dtvcc_windows.specs.Objects.{window_of}
use Rattle.dtvcc_windows.specs.Windows.{WindowState}
use Rattle.dtvcc_screen.specs.declared.cores.Core.{Core}
use Rattle.dtvcc_screen.specs.declared.screen.Screen.{Screen}
use Rattle.dtvcc_screen.specs.declared.service.Service.{Service}
use Rattle.dtvcc_screen.specs.Cores.{CoreState}
use Rattle.dtvcc_screen.specs.Meaning.{Event, served_after, start}
use Rattle.dtvcc_screen.specs.Screens.{ScreenState, Windows}
use Rattle.dtvcc_screen.specs.Shown.{LooksSame}

-- the window at a place of a list, where there is one and it is live
abbrev pub window_at : Option Window → Option WindowState
window_at None = None
window_at (Some window) = window_of window

-- the windows of a list, each by its place
unfoldable pub windows_of : List Window → Windows
windows_of windows id = window_at (slice_get windows id)

abbrev pub screen_of : Screen → ScreenState
screen_of screen = record { windows = windows_of screen.windows.items; current = screen.current }

-- a service has the screen of a state, its delay, and what it holds, as these bytes: outside of a delay none; in one, cut into
-- commands by themselves, they complete what is held and leave open what is unfinished
pub record Carries (state : CoreState) (bytes : List ℕ) (core : Core) : Type 0 where
  pub screen : screen_of core.screen ≡ state.screen
  pub until : core.until ≡ state.until
  pub held : completions [] bytes ≡ state.held
  pub along : (end : ℕ) → state.until ≡ Some end → front_from open_after [] bytes ≡ state.open_bytes
  pub calm : state.until ≡ None → bytes ≡ []

-- a service is in a state: it carries what the state has, and keeps the bytes of its unfinished command
pub record Stands (state : CoreState) (core : Core) : Type 0 where
  pub carries : Carries state core.held.items core
  pub unfinished : Keeps state.open_bytes core.reader
  pub are_bytes : All (λ byte. byte < 256) state.open_bytes

-- its screen
abbrev pub screen_in : Core → ScreenState
screen_in core = screen_of core.screen

-- in a delay, the frame that ends it
abbrev pub core_delay_end : Core → Option ℕ
core_delay_end core = core.until

-- a change was noted since it was last asked for
abbrev pub has_changed : Core → Bool
has_changed core = core.changed

-- where no change is noted none was noted before, and the same is seen of each window
pub record IsUnnoted (old new : Core) : Type 0 where
  pub before : has_changed old ≡ false
  pub same : LooksSame (screen_in old) (screen_in new)

abbrev pub Notes : Core → Core → Type 0
Notes old new = has_changed new ≡ false → IsUnnoted old new

-- the state from which what is held acts, over a screen: outside of a delay, nothing is held, and these bytes are open
abbrev pub acting_on : List ℕ → ScreenState → CoreState
acting_on open_bytes screen = record { screen = screen; open_bytes = open_bytes; until = None; held = [] }

-- these events led to where a service is
pub record Leads (events : List Event) (service : Service) : Type 0 where
  pub clock : service.clock ≡ (served_after start events).clock
  pub core : Stands (served_after start events).core service.core

-- the frames that a service was told of
abbrev pub service_ticks : Service → ℕ
service_ticks service = service.clock.ticks
