-- Believed: the program's answer stands on these definitions.
-- Whether two windows are shown otherwise: at another place or in another size, with other attributes, or with another cell at some
-- place (CTA-708-E, caption windows).
use Rattle.std.specs.Prelude.{◌==◌, ◌&&◌, not, Bool, true, false, Option, Some, None}
use Rattle.std.specs.Bool.{beq}
use Rattle.std.specs.List.{list_all, range_with_len}
use Rattle.dtvcc_codes.specs.declared.windows.WinAttr.{WinAttr}
use Rattle.dtvcc_windows.specs.declared.cells.DCell.{DCell}
use Rattle.dtvcc_windows.specs.Showing.{ShownWindow}
use Rattle.grid_print.specs.Writing.{same_fill, same_rgb, written_alike}

-- two places have the same cell, or neither has one
abbrev pub same_window_cell : Option DCell → Option DCell → Bool
same_window_cell None None = true
same_window_cell (Some a) (Some b) = a.ch == b.ch && written_alike a b
same_window_cell _ _ = false

abbrev pub same_attributes : WinAttr → WinAttr → Bool
same_attributes a b =
    a.justify == b.justify
    && (a.print == b.print
    && (a.scroll == b.scroll
    && (beq a.wrap b.wrap
    && (a.effect == b.effect
    && (a.effect_dir == b.effect_dir
    && (a.effect_speed == b.effect_speed && (same_fill a.fill b.fill && (a.border_kind == b.border_kind && same_rgb a.border b.border))))))))

-- the place, the size, the locks and the priority
abbrev pub same_place : ShownWindow → ShownWindow → Bool
same_place a b =
    beq a.relative b.relative
    && (a.av == b.av
    && (a.ah == b.ah
    && (a.anchor == b.anchor
    && (a.rows == b.rows && (a.cols == b.cols && (beq a.row_lock b.row_lock && (beq a.col_lock b.col_lock && a.priority == b.priority)))))))

-- one is shown and the other isn't, or they are shown at another place, with other attributes or with another cell
unfoldable pub differs : Option ShownWindow → Option ShownWindow → Bool
differs None None = false
differs (Some a) (Some b) =
    not (same_place a b
    && (same_attributes a.attributes b.attributes
    && list_all (λ row. list_all (λ col. same_window_cell (a.cells row col) (b.cells row col)) (range_with_len 0 a.cols)) (range_with_len 0 a.rows)))
differs _ _ = true
