-- Believed: the library's answers stand on these definitions.
-- What C learns of all cells of a channel, and of a window.
use Rattle.std.specs.Prelude.{◌≡◌, ◌⊎◌, ◌+◌, ◌*◌, ◌/◌, ◌%◌, ◌<◌, ◌≤◌, ℕ, List, Option, Some, None, drop, length, slice_get}
use Rattle.caption_streams.specs.Receptions.{grids_behind}
use Rattle.caption_streams.specs.declared.reception.Reception.{Reception}
use Rattle.cdp_packets.specs.Packets.{Frame}
use Rattle.dtvcc_windows.specs.Windows.{WindowState}
use Rattle.line21_codes.specs.declared.channels.Chan.{Chan}
use Rattle.line21_screen.specs.Grid.{Grid}
use Rattle.ccsuite_c.specs.Cells.{chan_of, text_cell, window_cell}
use Rattle.ccsuite_c.specs.Codes.{argument_code, none_code, room_code}
use Rattle.ccsuite_c.specs.declared.cells.TextCell.{TextCell}
use Rattle.ccsuite_c.specs.declared.cells.WindowCell.{WindowCell}

-- the first cells are these, this many, and the others are as they were
pub record HoldsCells {A : Type 0} (count : ℕ) (cell_at : ℕ → A) (before after : List A) : Type 0 where
  pub fits : count ≤ length before
  pub cells : (place : ℕ) → place < count → slice_get after place ≡ Some (cell_at place)
  pub others : drop count after ≡ drop count before

-- the cell at a place of the rows of 32 cells that a channel has, from row 1 on
abbrev pub grid_cell : Grid → ℕ → TextCell
grid_cell grid place = text_cell (grid (place / 32 + 1) (place % 32))

-- all of them, the cells of 15 rows
abbrev pub HoldsGrid : Grid → List TextCell → List TextCell → Type 0
HoldsGrid grid before after = HoldsCells 480 (grid_cell grid) before after

-- the number of a window's cells
abbrev pub cell_count : WindowState → ℕ
cell_count window = window.definition.rows * window.definition.cols

-- the cell at a place of its rows, which have as many as it has columns
abbrev pub window_grid_cell : WindowState → ℕ → WindowCell
window_grid_cell window place = window_cell (window.cells (place / window.definition.cols) (place % window.definition.cols))

-- all of them
abbrev pub HoldsWindow : WindowState → List WindowCell → List WindowCell → Type 0
HoldsWindow window before after = HoldsCells (cell_count window) (window_grid_cell window) before after

-- all cells of a channel are given, or there is no such channel, or too little room
abbrev pub GridAnswer : Reception → List Frame → ℕ → ℕ → List TextCell → List TextCell → Type 0
GridAnswer reception frames channel code before after =
    ((code ≡ 0) × ((chan : Chan) × (chan_of channel ≡ Some chan) × HoldsGrid (grids_behind reception frames chan) before after))
    ⊎ (((code ≡ argument_code) × (chan_of channel ≡ None) × (after ≡ before))
    ⊎ ((code ≡ room_code) × (length before < 480) × (after ≡ before)))

-- all cells of a window are given, or there is too little room; or there is no window
abbrev pub WindowGridAnswer : Option WindowState → ℕ → List WindowCell → List WindowCell → Type 0
WindowGridAnswer (Some window) code before after =
    ((code ≡ 0) × HoldsWindow window before after)
    ⊎ ((code ≡ room_code) × (length before < cell_count window) × (after ≡ before))
WindowGridAnswer None code before after = (code ≡ none_code) × (after ≡ before)
