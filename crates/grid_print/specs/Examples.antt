-- Between crates: the program's answer stands on none of these definitions.
-- A service for the worked examples: its window 0 has one row of ten columns, in the window style 1, and HELLO is written from
-- column 0 on in the pen style 1.
use Rattle.std.specs.Prelude.{ℕ, ◌==◌, true, false, if◌then◌else◌, Option, Some, None, codes, slice_get}
use Rattle.std.specs.Option.{option_map}
use Rattle.dtvcc_windows.specs.Places.{Cells}
use Rattle.dtvcc_windows.specs.Showing.{ShownWindow}
use Rattle.dtvcc_windows.specs.Styles.{pen_style, window_style}

abbrev pub hello_cells : Cells
hello_cells row col = if row == 0 then option_map (λ ch. record { ch = ch; pen = (pen_style 1).0; colors = (pen_style 1).1 }) (slice_get (codes "HELLO") col) else None

abbrev pub hello_window : ShownWindow
hello_window = record {
  relative = false;
  av = 60;
  ah = 50;
  anchor = 0;
  rows = 1;
  cols = 10;
  row_lock = true;
  col_lock = true;
  priority = 0;
  attributes = window_style 1;
  cells = hello_cells;
}

abbrev pub hello : ℕ → Option ShownWindow
hello id = if id == 0 then Some hello_window else None

-- a service without a window
abbrev pub no_service : ℕ → Option ShownWindow
no_service id = None
