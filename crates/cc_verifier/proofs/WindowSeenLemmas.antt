-- When a window is seen as a cue's.
use Rattle.std.proofs.Common.{◌≡◌, ◌∙◌, ℕ, ◌+◌, ◌<◌, ◌≤◌, ◌==◌, nat_le, nat_lt, Bool, true, false, List, [], ◌∷◌, length, ap, arith, refl, sym}
use Rattle.std.specs.Prelude.{◌&&◌, All, IfSome, IsTrue, None, Some, if◌then◌else◌, unwrap_or}
use Rattle.std.proofs.Math.Path.{fun_ext}
use Rattle.std.proofs.lemmas.Bool.Decides.{nat_tests}
use Rattle.std.proofs.lemmas.List.Elements.{All-head, All-tail}
use Rattle.cue_lists.specs.AuthoredServiceGrid.{authored_window, cell_at, has_place, written_cells}
use Rattle.cue_types.specs.Windows.{IsWindowRun}
use Rattle.cue_types.specs.declared.cue.Run.{Run}
use Rattle.cue_types.specs.declared.cue.WinCue.{WinCue}
use Rattle.dtvcc_codes.specs.declared.windows.Definition.{Definition}
use Rattle.dtvcc_codes.specs.declared.windows.WinAttr.{WinAttr}
use Rattle.dtvcc_windows.specs.Places.{Cells}
use Rattle.dtvcc_windows.specs.Showing.{ShownWindow, as_shown}
use Rattle.dtvcc_windows.specs.Sizes.{IsWithin, in_size}
use Rattle.dtvcc_windows.specs.Styles.{window_style}
use Rattle.dtvcc_windows.specs.Windows.{WindowState}
use Rattle.cc_verifier.specs.WindowSeen.{cue_part, seen_part}

-- what is seen of a part of a definition, attributes and cells
seen_with : Definition → WinAttr → Cells → ShownWindow
seen_with d attributes cells = record {
  relative = d.relative;
  av = d.av;
  ah = d.ah;
  anchor = d.anchor;
  rows = d.rows;
  cols = d.cols;
  row_lock = d.row_lock;
  col_lock = d.col_lock;
  priority = d.priority;
  attributes = attributes;
  cells = cells;
}

seen_is : (w : WindowState) → as_shown w ≡ seen_with (seen_part w.definition) w.attributes w.cells
unfolding seen_with
seen_is w = refl

authored_is : (own : WinCue) (runs : List Run) → authored_window own runs ≡ seen_with (cue_part own) (unwrap_or own.attr (window_style own.ws)) (written_cells own.ps runs)
unfolding seen_with
authored_is own runs = refl

-- windows of the same parts are seen alike
pub seen_alike : (w : WindowState) (own : WinCue) (runs : List Run) → seen_part w.definition ≡ cue_part own
    → w.attributes ≡ unwrap_or own.attr (window_style own.ws) → w.cells ≡ written_cells own.ps runs → as_shown w ≡ authored_window own runs
seen_alike w own runs part attributes cells = seen_is w ∙ (rw (part, attributes, cells) refl) ∙ sym (authored_is own runs)

pub same_attributes : (w : WindowState) (own : WinCue) (runs : List Run) → as_shown w ≡ authored_window own runs
    → w.attributes ≡ unwrap_or own.attr (window_style own.ws)
same_attributes w own runs same = ap (λ (s : ShownWindow). s.attributes) same

pub same_cells : (w : WindowState) (own : WinCue) (runs : List Run) → as_shown w ≡ authored_window own runs → w.cells ≡ written_cells own.ps runs
same_cells w own runs same = ap (λ (s : ShownWindow). s.cells) same

-- the size of the part
pub same_rows : (d : Definition) (own : WinCue) → seen_part d ≡ cue_part own → d.rows ≡ own.rows
same_rows d own same = ap (λ (x : Definition). x.rows) same

-- a run has no place outside of its window
no_place : (own : WinCue) (run : Run) (row column : ℕ) → IsWindowRun own run → in_size own.rows own.cols row column ≡ false → has_place run row column ≡ false
no_place own run row column formed outside = by_row (row == run.row) refl
  where
    by_column : row ≡ run.row → (b d : Bool) → nat_le run.col column ≡ b → nat_lt column (run.col + length run.text) ≡ d → (b && d) ≡ false
    by_column same false d is other = refl
    by_column same true false is other = refl
    by_column same true true is other =
        let r : run.row < own.rows = formed.row in
        let f : run.col + length run.text ≤ own.cols = formed.fits in
        let c : column < run.col + length run.text = grind (arith, nat_tests) in
        let in_rows : row < own.rows = omega arith in
        let in_cols : column < own.cols = omega arith in
        grind (arith, nat_tests)

    by_row : (b : Bool) → (row == run.row) ≡ b → (b && (nat_le run.col column && nat_lt column (run.col + length run.text))) ≡ false
    by_row false is = refl
    by_row true is = let same : row ≡ run.row = grind (arith, nat_tests) in by_column same (nat_le run.col column) (nat_lt column (run.col + length run.text)) refl refl

pub no_cell : (own : WinCue) (runs : List Run) (row column : ℕ) → All (IsWindowRun own) runs → in_size own.rows own.cols row column ≡ false
    → written_cells own.ps runs row column ≡ None
no_cell own [] row column formed outside = refl
no_cell own (run ∷ runs) row column formed outside =
    ap (λ b. if b then Some (cell_at own.ps run column) else written_cells own.ps runs row column)
    (no_place own run row column (All-head (IsWindowRun own) run runs formed) outside)
    ∙ no_cell own runs row column (All-tail (IsWindowRun own) run runs formed) outside

-- the cells are the same where they are in the size of the window
pub cells_same : (w : WindowState) (own : WinCue) (runs : List Run) → w.definition.rows ≡ own.rows → w.definition.cols ≡ own.cols
    → All (IsWindowRun own) runs → IsWithin w.definition.rows w.definition.cols w.cells
    → ((row : ℕ) → row < own.rows → (column : ℕ) → column < own.cols → w.cells row column ≡ written_cells own.ps runs row column)
    → w.cells ≡ written_cells own.ps runs
cells_same w own runs rows cols formed within same = fun_ext (λ row. fun_ext (λ column. at row column))
  where
    by_size : (row column : ℕ) (b : Bool) → in_size own.rows own.cols row column ≡ b → w.cells row column ≡ written_cells own.ps runs row column
    by_size row column true inside =
        let r : row < own.rows = grind (arith, nat_tests) in
        let c : column < own.cols = grind (arith, nat_tests) in same row r column c
    by_size row column false outside =
        let h : in_size w.definition.rows w.definition.cols row column ≡ false = ap (λ n. in_size n w.definition.cols row column) rows ∙ ap (λ n. in_size own.rows n row column) cols ∙ outside in
        within row column h ∙ sym (no_cell own runs row column formed outside)

    at : (row column : ℕ) → w.cells row column ≡ written_cells own.ps runs row column
    at row column = by_size row column (in_size own.rows own.cols row column) refl

-- what a window that is there gave of itself
pub given : {A : Type 0} (live : Bool) (w : WindowState) (part : WindowState → A) (x : A) → IsTrue live
    → IfSome (if live then Some w else None) (λ (window : WindowState). x ≡ part window) → x ≡ part w
given true w part x is gives = gives
given false w part x is gives = cc
