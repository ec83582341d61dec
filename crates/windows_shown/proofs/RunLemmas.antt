-- The commands of runs write exactly the cells of the runs, each in its pen and its colours.
use Rattle.std.proofs.Common.{◌≡◌, ℕ, ◌+◌, ◌-◌, ◌<◌, ◌≤◌, min, Bool, true, false, if◌then◌else◌, Option, Some, None, is_some, List, [], ◌∷◌, ◌++◌, All, length, refl, sym, ap, ◌∙◌, arith}
use Rattle.std.specs.Prelude.{unwrap_or}
use Rattle.std.specs.List.{AllByRecursion, flat_map}
use Rattle.std.proofs.lemmas.List.Elements.{All-head, All-tail}
use Rattle.dtvcc_codes.specs.declared.pens.PenAttr.{PenAttr}
use Rattle.dtvcc_codes.specs.declared.pens.PenColors.{PenColors}
use Rattle.dtvcc_codes.specs.declared.windows.Definition.{Definition}
use Rattle.dtvcc_codes.specs.declared.windows.WinAttr.{WinAttr}
use Rattle.dtvcc_windows.specs.Places.{Cells}
use Rattle.dtvcc_windows.specs.Styles.{pen_style}
use Rattle.dtvcc_windows.specs.Windows.{WindowState}
use Rattle.cue_types.specs.declared.cue.Pen.{Pen}
use Rattle.cue_types.specs.declared.cue.Pen.TheVariants.{Line21, Dtv}
use Rattle.cue_types.specs.declared.cue.Run.{Run}
use Rattle.cue_types.specs.declared.cue.WinCue.{WinCue}
use Rattle.cue_types.specs.Windows.{IsWindowRun}
use Rattle.frame_scheduler.specs.AuthoredServiceGrid.{cell_at, has_place, written_as}
use Rattle.dtvcc_author.specs.WindowCommands.{character_commands, color_commands, definition_of, run_commands, run_pen}
use Rattle.windows_shown.specs.Loading.{edited_all}
use Rattle.windows_shown.proofs.LoadedTextLemmas.{edited_all-append, hidden, text_on}

-- the pen of a run
pen_is : (style : ℕ) (pen : Pen) → run_pen (pen_style style).0 pen ≡ written_as style pen
pen_is style (Line21 line21) = refl
pen_is style (Dtv italic underline) = refl

-- and its colours, in a pen style
abbrev colors_of : ℕ → Run → PenColors
colors_of style run = unwrap_or run.colors (pen_style style).1

-- cells with a run
abbrev pub with_run : ℕ → Run → Cells → Cells
with_run style run cells row column = if has_place run row column then Some (cell_at style run column) else cells row column

abbrev pub with_runs : ℕ → List Run → Cells → Cells
with_runs style [] cells = cells
with_runs style (run ∷ runs) cells = with_runs style runs (with_run style run cells)

-- a run without colours of its own has the style's
unowned : (own : Option PenColors) (style : PenColors) → is_some own ≡ false → unwrap_or own style ≡ style
unowned None style none = refl
unowned (Some colors) style none = cc

-- after the commands of colours the pen has the run's: they are sent where some run has its own, and else the pen has the style's
-- already
colors_on : (coloured : Bool) (style : PenColors) (own : Option PenColors) (d : Definition) (attributes : WinAttr) (cells : Cells) (row col : ℕ)
    (pen : PenAttr) (colors : PenColors) → (coloured ≡ false → colors ≡ style) → (coloured ≡ false → is_some own ≡ false)
    → edited_all (color_commands coloured style own) (hidden d attributes cells row col pen colors)
    ≡ hidden d attributes cells row col pen (unwrap_or own style)
colors_on true style own d attributes cells row col pen colors same none = refl
colors_on false style own d attributes cells row col pen colors same none =
    ap (hidden d attributes cells row col pen) (same refl ∙ sym (unowned own style (none refl)))

-- a place in the window
place_is : (n size : ℕ) → n < size → min n (size - 1) ≡ n
place_is n size within = omega arith

-- a run that fits
run_on : (coloured : Bool) (style : ℕ) (run : Run) (d : Definition) (attributes : WinAttr) (cells : Cells) (row col : ℕ) (pen : PenAttr)
    (colors : PenColors) → run.row < d.rows → run.col < d.cols → run.col + length run.text ≤ d.cols
    → (coloured ≡ false → colors ≡ (pen_style style).1) → (coloured ≡ false → is_some run.colors ≡ false)
    → edited_all (run_commands coloured (pen_style style).0 (pen_style style).1 run) (hidden d attributes cells row col pen colors)
    ≡ hidden d attributes (with_run style run cells) run.row (run.col + length run.text) (written_as style run.pen) (colors_of style run)
run_on coloured style run d attributes cells row col pen colors in_rows in_cols fits same none =
    let characters = character_commands run.text in
    let own = color_commands coloured (pen_style style).1 run.colors in
    ap (λ n. edited_all (own ++ characters) (hidden d attributes cells n (min run.col (d.cols - 1)) (run_pen (pen_style style).0 run.pen) colors))
    (place_is run.row d.rows in_rows)
    ∙ ap (λ n. edited_all (own ++ characters) (hidden d attributes cells run.row n (run_pen (pen_style style).0 run.pen) colors)) (place_is run.col d.cols in_cols)
    ∙ ap (λ p. edited_all (own ++ characters) (hidden d attributes cells run.row run.col p colors)) (pen_is style run.pen)
    ∙ edited_all-append own characters (hidden d attributes cells run.row run.col (written_as style run.pen) colors)
    ∙ ap (edited_all characters)
    (colors_on coloured (pen_style style).1 run.colors d attributes cells run.row run.col (written_as style run.pen) colors same none)
    ∙ text_on run.text d attributes cells run.row run.col (written_as style run.pen) (colors_of style run) fits

-- a hidden window with these cells, wherever its pen stands
pub record HasCells (d : Definition) (attributes : WinAttr) (cells : Cells) (w : WindowState) : Type 0 where
  pub row : ℕ
  pub col : ℕ
  pub pen : PenAttr
  pub colors : PenColors
  pub is : w ≡ hidden d attributes cells row col pen colors

-- runs of a window
pub runs_on : (coloured : Bool) (runs : List Run) (w : WinCue) (attributes : WinAttr) (cells : Cells) (row col : ℕ) (pen : PenAttr)
    (colors : PenColors) → All (IsWindowRun w) runs → (coloured ≡ false → colors ≡ (pen_style w.ps).1)
    → AllByRecursion (λ (run : Run). coloured ≡ false → is_some run.colors ≡ false) runs
    → HasCells (definition_of w) attributes (with_runs w.ps runs cells)
    (edited_all (flat_map (run_commands coloured (pen_style w.ps).0 (pen_style w.ps).1) runs) (hidden (definition_of w) attributes cells row col pen colors))
runs_on coloured [] w attributes cells row col pen colors formed same none =
    record { row = row; col = col; pen = pen; colors = colors; is = refl }
runs_on coloured (run ∷ runs) w attributes cells row col pen colors formed same none =
    let here = All-head (IsWindowRun w) run runs formed in
    let commands = run_commands coloured (pen_style w.ps).0 (pen_style w.ps).1 in
    let rest = runs_on coloured runs w attributes (with_run w.ps run cells) run.row (run.col + length run.text) (written_as w.ps run.pen)
    (colors_of w.ps run) (All-tail (IsWindowRun w) run runs formed) (λ plain. unowned run.colors (pen_style w.ps).1 (none.0 plain)) none.1 in
    record {
      row = rest.row;
      col = rest.col;
      pen = rest.pen;
      colors = rest.colors;
      is = edited_all-append (commands run) (flat_map commands runs) (hidden (definition_of w) attributes cells row col pen colors)
          ∙ ap (edited_all (flat_map commands runs))
          (run_on coloured w.ps run (definition_of w) attributes cells row col pen colors here.row here.col here.fits same none.0)
          ∙ rest.is;
    }
