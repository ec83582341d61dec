-- Believed: the program's answer stands on these definitions.
-- The screen of a service: its windows 0 to 7, and the current one, to which text and pen commands go
-- (CTA-708-E, caption windows and SetCurrentWindow).
use Rattle.std.specs.Prelude.{ℕ, ◌==◌, Bool, if◌then◌else◌, Option, Some, None, option_map}
use Rattle.dtvcc_windows.specs.Windows.{WindowState}

-- the window of each id, where there is one
abbrev pub Windows : Type 0
Windows = ℕ → Option WindowState

pub record ScreenState : Type 0 where
  pub windows : Windows
  pub current : Option ℕ

-- no window at all
abbrev pub no_windows : Windows
no_windows id = None

-- a screen without windows
abbrev pub empty_screen : ScreenState
empty_screen = record { windows = no_windows; current = None }

-- one window is another one
abbrev pub with_window : ℕ → Option WindowState → Windows → Windows
with_window id window windows i = if i == id then window else windows i

-- the windows that a test names change
abbrev pub on_windows : (ℕ → Bool) → (Option WindowState → Option WindowState) → Windows → Windows
on_windows is_named change windows i = if is_named i then change (windows i) else windows i

-- the window of this id is edited, if there is one
abbrev pub on_window : Option ℕ → (WindowState → WindowState) → Windows → Windows
on_window None edit windows = windows
on_window (Some id) edit windows = with_window id (option_map edit (windows id)) windows

-- the current window is edited; where there is none, nothing happens (for the last, this project's own choice)
abbrev pub on_current : (WindowState → WindowState) → ScreenState → ScreenState
on_current edit s = record s { windows = on_window s.current edit s.windows }
