-- Every command of a window cue in its ranges has bytes.
use Rattle.std.proofs.Common.{◌≡◌, ℕ, ◌-◌, ◌<◌, zero, suc, Bool, true, false, List, [], ◌∷◌, ◌++◌, refl, subst, arith}
use Rattle.std.specs.Prelude.{All, Option, Some, None, IsSome, slice_index_or, unwrap_or, IfSome}
use Rattle.std.specs.List.{AllByRecursion, flat_map}
use Rattle.std.proofs.lemmas.List.Elements.{All-from_recursion, All-head, All-tail, All-weaker, recursion_from_All}
use Rattle.dtvcc_codes.specs.declared.commands.Command.{Command}
use Rattle.dtvcc_codes.specs.declared.commands.Command.TheVariants.{Df, Put, Spa, Spl}
use Rattle.dtvcc_codes.specs.declared.pens.PenAttr.{PenAttr}
use Rattle.dtvcc_codes.specs.declared.pens.PenColors.{PenColors}
use Rattle.dtvcc_codes.specs.declared.windows.WinAttr.{WinAttr}
use Rattle.dtvcc_codes.specs.CharacterSpellings.{dtvcc_spelling}
use Rattle.dtvcc_codes.specs.Spellable.{IsDefinition, IsPenAttr, IsPenColors}
use Rattle.dtvcc_windows.specs.Styles.{pen_style, pen_styles, upright_pen, white_on_black}
use Rattle.cue_types.specs.declared.cue.Cue.{Cue}
use Rattle.cue_types.specs.declared.cue.Kind.{Kind}
use Rattle.cue_types.specs.declared.cue.Kind.TheVariants.{Pop, Paint, Roll, Win}
use Rattle.cue_types.specs.declared.cue.Pen.{Pen}
use Rattle.cue_types.specs.declared.cue.Pen.TheVariants.{Line21, Dtv}
use Rattle.cue_types.specs.declared.cue.Run.{Run}
use Rattle.cue_types.specs.declared.cue.WinCue.{WinCue}
use Rattle.cue_types.specs.Cues.{IsCueFormed, IsOfKind}
use Rattle.cue_types.specs.Windows.{AreWindowAttributes, IsWindow, IsWindowRun}
use Rattle.dtvcc_author.specs.CueUnits.{IsWritable}
use Rattle.dtvcc_author.specs.WindowCommands.{are_coloured, attribute_commands, character_commands, color_commands, commands_of, commands_with, definition_of, run_commands, run_pen, window_commands}

-- a fact of each command
abbrev AreWritable : List Command → Type 0
AreWritable commands = AllByRecursion IsWritable commands

-- of two lists
AreWritable-append : (commands more : List Command) → AreWritable commands → AreWritable more → AreWritable (commands ++ more)
AreWritable-append [] more all too = too
AreWritable-append (command ∷ commands) more all too = (all.0, AreWritable-append commands more all.1 too)

-- a pen style and its colours are in their ranges
abbrev IsStyle : PenAttr × PenColors → Type 0
IsStyle style = IsPenAttr style.0 × IsPenColors style.1

style_is : (font edge opacity : ℕ) → font < 8 → edge < 8 → opacity < 4 → IsStyle (upright_pen font edge, white_on_black opacity)
style_is font edge opacity f e o = (
  record { size = omega arith; font = f; tag = omega arith; offset = omega arith; edge = e },
  record {
    fg = record { opacity = omega arith; r = omega arith; g = omega arith; b = omega arith };
    bg = record { opacity = o; r = omega arith; g = omega arith; b = omega arith };
    edge = record { r = omega arith; g = omega arith; b = omega arith };
  },
)

-- each of a list's entries, and what stands for those that it lacks
style_at : (styles : List (PenAttr × PenColors)) (i : ℕ) → AllByRecursion IsStyle styles
    → IsStyle (slice_index_or styles i (upright_pen 0 0, white_on_black 0))
style_at [] i all = style_is 0 0 0 (omega arith) (omega arith) (omega arith)
style_at (style ∷ styles) zero all = all.0
style_at (style ∷ styles) (suc i) all = style_at styles i all.1

pub pen_style_is : (number : ℕ) → IsStyle (pen_style number)
pen_style_is number = style_at pen_styles (number - 1) (
  style_is 0 0 0 (omega arith) (omega arith) (omega arith),
  (
    style_is 1 0 0 (omega arith) (omega arith) (omega arith),
    (
      style_is 2 0 0 (omega arith) (omega arith) (omega arith),
      (
        style_is 3 0 0 (omega arith) (omega arith) (omega arith),
        (
          style_is 4 0 0 (omega arith) (omega arith) (omega arith),
          (
            style_is 3 3 3 (omega arith) (omega arith) (omega arith),
            (style_is 4 3 3 (omega arith) (omega arith) (omega arith), tt),
          ),
        ),
      ),
    ),
  ),
)

-- the definition of a window
definition_writable : (w : WinCue) → IsWindow w → IsDefinition (definition_of w)
definition_writable w formed = record {
  id = omega (arith, formed.id);
  priority = omega (arith, formed.priority);
  av = omega (arith, formed.av);
  ah = omega (arith, formed.ah);
  anchor = omega (arith, formed.anchor);
  some_rows = formed.rows.0;
  rows = omega (arith, formed.rows);
  some_cols = formed.cols.0;
  cols = omega (arith, formed.cols);
  ws = omega (arith, formed.ws);
  ps = omega (arith, formed.ps);
}

-- a window's own attributes
attributes_writable : (attributes : Option WinAttr) → IfSome attributes AreWindowAttributes → AreWritable (attribute_commands attributes)
attributes_writable None formed = tt
attributes_writable (Some attributes) formed = (record { spellable = formed.spellable; unskipped = refl }, tt)

-- the pen of a run
pen_writable : (style : PenAttr) (pen : Pen) → IsPenAttr style → IsPenAttr (run_pen style pen)
pen_writable style (Line21 _) is = is
pen_writable style (Dtv italic underline) is =
    record { size = is.size; font = is.font; tag = is.tag; offset = is.offset; edge = is.edge }

-- the colours of a run
colors_are : (style : PenColors) (own : Option PenColors) → IsPenColors style → IfSome own IsPenColors → IsPenColors (unwrap_or own style)
colors_are style None is formed = is
colors_are style (Some colors) is formed = formed

colors_writable : (coloured : Bool) (style : PenColors) (own : Option PenColors) → IsPenColors style → IfSome own IsPenColors
    → AreWritable (color_commands coloured style own)
colors_writable false style own is formed = tt
colors_writable true style own is formed = (record { spellable = colors_are style own is formed; unskipped = refl }, tt)

-- the characters of a text
characters_writable : (text : List ℕ) → All (λ ch. IsSome (dtvcc_spelling ch)) text → AreWritable (character_commands text)
characters_writable [] coded = tt
characters_writable (ch ∷ text) coded =
    (record { spellable = All-head (λ ch. IsSome (dtvcc_spelling ch)) ch text coded; unskipped = refl }, characters_writable text (All-tail (λ ch. IsSome (dtvcc_spelling ch)) ch text coded))

-- a run
run_writable : (coloured : Bool) (pen : PenAttr) (colors : PenColors) (w : WinCue) (run : Run) → IsPenAttr pen → IsPenColors colors
    → IsWindow w → IsWindowRun w run → AreWritable (run_commands coloured pen colors run)
run_writable coloured pen colors w run is are formed placed = (
  record { spellable = (omega (arith, formed.rows, placed.row), omega (arith, formed.cols, placed.col)); unskipped = refl },
  (
    record { spellable = pen_writable pen run.pen is; unskipped = refl },
    AreWritable-append (color_commands coloured colors run.colors) (character_commands run.text)
        (colors_writable coloured colors run.colors are placed.colors) (characters_writable run.text placed.coded),
  ),
)

-- runs
runs_writable : (coloured : Bool) (pen : PenAttr) (colors : PenColors) (w : WinCue) (runs : List Run) → IsPenAttr pen → IsPenColors colors
    → IsWindow w → All (IsWindowRun w) runs → AreWritable (flat_map (run_commands coloured pen colors) runs)
runs_writable coloured pen colors w [] is are formed placed = tt
runs_writable coloured pen colors w (run ∷ runs) is are formed placed =
    AreWritable-append (run_commands coloured pen colors run) (flat_map (run_commands coloured pen colors) runs)
    (run_writable coloured pen colors w run is are formed (All-head (IsWindowRun w) run runs placed))
    (runs_writable coloured pen colors w runs is are formed (All-tail (IsWindowRun w) run runs placed))

-- a window with its runs
window_writable : (w : WinCue) (runs : List Run) → IsWindow w → All (IsWindowRun w) runs → AreWritable (window_commands w runs)
window_writable w runs formed placed = (
  record { spellable = definition_writable w formed; unskipped = refl },
  AreWritable-append (attribute_commands w.attr) (flat_map (run_commands (are_coloured runs) (pen_style w.ps).0 (pen_style w.ps).1) runs)
      (attributes_writable w.attr formed.attr)
      (runs_writable (are_coloured runs) (pen_style w.ps).0 (pen_style w.ps).1 w runs (pen_style_is w.ps).0 (pen_style_is w.ps).1 formed placed),
)

-- what is written of a window: its definition, its attributes, and each of its runs
pub record IsWindowWritable (w : WinCue) (runs : List Run) (coloured : Bool) (style : PenAttr × PenColors) : Type 0 where
  pub definition : IsWritable (Df (definition_of w))
  pub attributes : All IsWritable (attribute_commands w.attr)
  pub each_run : All (λ run. All IsWritable (run_commands coloured style.0 style.1 run)) runs

each_run_writable : (coloured : Bool) (pen : PenAttr) (colors : PenColors) (w : WinCue) (runs : List Run) → IsPenAttr pen → IsPenColors colors
    → IsWindow w → All (IsWindowRun w) runs → All (λ run. All IsWritable (run_commands coloured pen colors run)) runs
each_run_writable coloured pen colors w runs is are formed placed =
    All-weaker (IsWindowRun w) (λ run. All IsWritable (run_commands coloured pen colors run))
    (λ run of. All-from_recursion IsWritable (run_commands coloured pen colors run) (run_writable coloured pen colors w run is are formed of))
    runs placed

pub window_parts : (w : WinCue) (runs : List Run) (coloured : Bool) → IsWindow w → All (IsWindowRun w) runs
    → IsWindowWritable w runs coloured (pen_style w.ps)
window_parts w runs coloured formed placed = record {
  definition = record { spellable = definition_writable w formed; unskipped = refl };
  attributes = All-from_recursion IsWritable (attribute_commands w.attr) (attributes_writable w.attr formed.attr);
  each_run = each_run_writable coloured (pen_style w.ps).0 (pen_style w.ps).1 w runs (pen_style_is w.ps).0 (pen_style_is w.ps).1 formed placed;
}

-- what is written of a run: its place, its pen, its colours, and each of its characters
pub record IsRunWritable (coloured : Bool) (pen : PenAttr) (colors : PenColors) (run : Run) : Type 0 where
  pub to_place : IsWritable (Spl run.row run.col)
  pub to_pen : IsWritable (Spa (run_pen pen run.pen))
  pub to_colors : All IsWritable (color_commands coloured colors run.colors)
  pub characters : All (λ ch. IsWritable (Put (Some ch))) run.text

both_writable : (commands more : List Command) → AreWritable (commands ++ more) → AreWritable commands × AreWritable more
both_writable [] more all = (tt, all)
both_writable (command ∷ commands) more all = let rest = both_writable commands more all.1 in ((all.0, rest.0), rest.1)

each_character : (text : List ℕ) → AreWritable (character_commands text) → AllByRecursion (λ ch. IsWritable (Put (Some ch))) text
each_character [] all = tt
each_character (ch ∷ text) all = (all.0, each_character text all.1)

pub run_parts : (coloured : Bool) (pen : PenAttr) (colors : PenColors) (run : Run) → All IsWritable (run_commands coloured pen colors run)
    → IsRunWritable coloured pen colors run
run_parts coloured pen colors run all =
    let each = recursion_from_All IsWritable (run_commands coloured pen colors run) all in
    let rest = both_writable (color_commands coloured colors run.colors) (character_commands run.text) each.1.1 in
    record {
      to_place = each.0;
      to_pen = each.1.0;
      to_colors = All-from_recursion IsWritable (color_commands coloured colors run.colors) rest.0;
      characters = All-from_recursion (λ ch. IsWritable (Put (Some ch))) run.text (each_character run.text rest.1);
    }

-- a cue of a kind
kind_writable : (kind : Kind) (hide : Option ℕ) (runs : List Run) → IsOfKind kind hide runs → AreWritable (commands_with kind runs)
kind_writable (Pop channel) hide runs formed = tt
kind_writable (Paint channel) hide runs formed = tt
kind_writable (Roll channel rows) hide runs formed = tt
kind_writable (Win w) hide runs formed = window_writable w runs formed.0 formed.2

-- a cue in its ranges
pub commands_writable : (cue : Cue) → IsCueFormed cue → All IsWritable (commands_of cue)
commands_writable cue formed = All-from_recursion IsWritable (commands_of cue) (kind_writable cue.kind cue.hide cue.runs formed.kind)

-- the window of a cue in its ranges is in its own, and so are its runs
kind_runs : (kind : Kind) (hide : Option ℕ) (runs : List Run) → IsOfKind kind hide runs → (w : WinCue) → kind ≡ Win w
    → IsWindow w × All (IsWindowRun w) runs
kind_runs (Pop channel) hide runs formed w is = cc
kind_runs (Paint channel) hide runs formed w is = cc
kind_runs (Roll channel rows) hide runs formed w is = cc
kind_runs (Win v) hide runs formed w is =
    let same : v ≡ w = cc in
    subst (λ u. IsWindow u × All (IsWindowRun u) runs) same (formed.0, formed.2)

pub cue_runs : (cue : Cue) → IsCueFormed cue → (w : WinCue) → cue.kind ≡ Win w → IsWindow w × All (IsWindowRun w) cue.runs
cue_runs cue formed w is = kind_runs cue.kind cue.hide cue.runs formed.kind w is
