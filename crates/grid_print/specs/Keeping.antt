-- Believed in part: the library's answers stand on some of these definitions.
-- What is kept of the windows of a service, window by window.
use Rattle.std.specs.Prelude.{◌≡◌, ℕ, ◌<◌, ◌≤◌, Bool, List, Option, Some, None, slice_get}
use Rattle.std.specs.List.{list_any, range_with_len}
use Rattle.dtvcc_windows.specs.declared.window.Window.{Window}
use Rattle.dtvcc_windows.specs.Objects.{window_of}
use Rattle.dtvcc_windows.specs.Showing.{ShownWindow, shown}
use Rattle.grid_print.specs.Differences.{differs}

-- what is seen of a window, if there is one
abbrev pub window_seen : Option Window → Option ShownWindow
window_seen None = None
window_seen (Some window) = shown (window_of window)

-- what is seen of windows in a list, by their places
abbrev pub windows_seen : List Window → ℕ → Option ShownWindow
windows_seen windows id = window_seen (slice_get windows id)

-- below a place the windows are seen as these, the others as before, and `changed` says whether one of those below was seen otherwise
pub record KeepsWindows (are : ℕ → Option ShownWindow) (place : ℕ) (was now : ℕ → Option ShownWindow) (changed : Bool) : Type 0 where
  pub seen : (id : ℕ) → id < place → now id ≡ are id
  pub left : (id : ℕ) → place ≤ id → now id ≡ was id
  pub some : changed ≡ list_any (λ id. differs (was id) (are id)) (range_with_len 0 place)
