-- Believed: the program's answer stands on these definitions.
-- DefineWindow (CTA-708-E, DF0 to DF7).
use Rattle.std.specs.Prelude.{ℕ, ◌-◌, ◌==◌, min, if◌then◌else◌, Option, Some, None}
use Rattle.dtvcc_codes.specs.declared.windows.Definition.{Definition}
use Rattle.dtvcc_windows.specs.Places.{no_cells}
use Rattle.dtvcc_windows.specs.Sizes.{cells_in}
use Rattle.dtvcc_windows.specs.Styles.{pen_style, window_style}
use Rattle.dtvcc_windows.specs.Windows.{WindowState}

-- a new window takes style 1 where the definition names none
abbrev pub style_or_first : ℕ → ℕ
style_or_first style = if style == 0 then 1 else style

-- a window that wasn't there is made: it has no cell, and its pen stands at row 0, column 0
abbrev pub made : Definition → WindowState
made d = record {
  definition = d;
  visible = d.visible;
  attributes = window_style (style_or_first d.ws);
  cells = no_cells;
  row = 0;
  col = 0;
  pen = (pen_style (style_or_first d.ps)).0;
  colors = (pen_style (style_or_first d.ps)).1;
}

-- one that was there keeps the cells that lie in both sizes, and its pen is brought into the new one, to the
-- last row and the last column at most; it keeps its styles where the definition names none
-- (for the cells and the pen, this project's own choice)
abbrev pub redefined : Definition → WindowState → WindowState
redefined d w = record {
  definition = d;
  visible = d.visible;
  attributes = if d.ws == 0 then w.attributes else window_style d.ws;
  cells = cells_in d.rows d.cols (cells_in w.definition.rows w.definition.cols w.cells);
  row = min w.row (d.rows - 1);
  col = min w.col (d.cols - 1);
  pen = if d.ps == 0 then w.pen else (pen_style d.ps).0;
  colors = if d.ps == 0 then w.colors else (pen_style d.ps).1;
}

-- a definition makes a window or changes the one that is there
abbrev pub defined : Definition → Option WindowState → WindowState
defined d None = made d
defined d (Some w) = redefined d w
