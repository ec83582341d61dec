-- Believed: the library's answers stand on these definitions.
-- What the objects of the program stand for.
use Rattle.std.specs.Prelude.{Bool, if◌then◌else◌, Option, Some, None}
use Rattle.dtvcc_windows.specs.declared.window.Window.{Window}
use Rattle.dtvcc_windows.specs.Lists.{listed_cells}
use Rattle.dtvcc_windows.specs.Windows.{WindowState}

-- there is a window
abbrev pub is_live : Window → Bool
is_live window = window.live

-- the window's state, as it stands where there is a window
abbrev pub state_of : Window → WindowState
state_of window = record {
  definition = window.definition;
  visible = window.visible;
  attributes = window.attributes;
  cells = listed_cells window.cells.places.items;
  row = window.row;
  col = window.col;
  pen = window.pen;
  colors = window.colors;
}

-- the window, if there is one
abbrev pub window_of : Window → Option WindowState
window_of window = if is_live window then Some (state_of window) else None
