-- Believed in part: the program's answer stands on some of these definitions.
-- The commands that load a caption into its window (CTA-708-E, DefineWindow, SetWindowAttributes, and the commands of pens and text).
use Rattle.std.specs.Prelude.{ℕ, Bool, true, false, if◌then◌else◌, List, [], ◌∷◌, ◌++◌, Option, Some, None, is_some, map, unwrap_or}
use Rattle.std.specs.List.{flat_map, list_any}
use Rattle.dtvcc_codes.specs.declared.commands.Command.{Command}
use Rattle.dtvcc_codes.specs.declared.commands.Command.TheVariants.{Put, Df, Spa, Spc, Spl, Swa}
use Rattle.dtvcc_codes.specs.declared.pens.PenAttr.{PenAttr}
use Rattle.dtvcc_codes.specs.declared.pens.PenColors.{PenColors}
use Rattle.dtvcc_codes.specs.declared.windows.Definition.{Definition}
use Rattle.dtvcc_codes.specs.declared.windows.WinAttr.{WinAttr}
use Rattle.dtvcc_windows.specs.Styles.{pen_style}
use Rattle.cue_types.specs.declared.cue.Cue.{Cue}
use Rattle.cue_types.specs.declared.cue.Kind.{Kind}
use Rattle.cue_types.specs.declared.cue.Kind.TheVariants.{Pop, Paint, Roll, Win}
use Rattle.cue_types.specs.declared.cue.Pen.{Pen}
use Rattle.cue_types.specs.declared.cue.Pen.TheVariants.{Line21, Dtv}
use Rattle.cue_types.specs.declared.cue.Run.{Run}
use Rattle.cue_types.specs.declared.cue.WinCue.{WinCue}

-- the window: hidden, its rows and columns locked, its anchor given in cells
abbrev pub definition_of : WinCue → Definition
definition_of w = record {
  id = w.id;
  visible = false;
  row_lock = true;
  col_lock = true;
  priority = w.priority;
  relative = false;
  av = w.av;
  ah = w.ah;
  anchor = w.anchor;
  rows = w.rows;
  cols = w.cols;
  ws = w.ws;
  ps = w.ps;
}

-- a window's own attributes, if it has its own; without them the window style has set them
abbrev pub attribute_commands : Option WinAttr → List Command
attribute_commands None = []
attribute_commands (Some attributes) = Swa attributes ∷ []

-- some run has colours of its own
abbrev pub are_coloured : List Run → Bool
are_coloured runs = list_any (λ run. is_some run.colors) runs

-- the pen of a run: the pen of the window's pen style, with the run's italics and underline
abbrev pub run_pen : PenAttr → Pen → PenAttr
run_pen style (Line21 _) = style
run_pen style (Dtv italic underline) = record style { italic = italic; underline = underline }

-- the colours of a run, its own or the pen style's, in a cue of which some run has its own
abbrev pub color_commands : Bool → PenColors → Option PenColors → List Command
color_commands coloured style own = if coloured then Spc (unwrap_or own style) ∷ [] else []

-- the characters of a text
abbrev pub character_commands : List ℕ → List Command
character_commands text = map (λ ch. Put (Some ch)) text

-- a run: its place, its pen, its colours, its characters
abbrev pub run_commands : Bool → PenAttr → PenColors → Run → List Command
run_commands coloured pen colors run =
    Spl run.row run.col ∷ Spa (run_pen pen run.pen)
    ∷ (color_commands coloured colors run.colors ++ map (λ ch. Put (Some ch)) run.text)

-- the window, its attributes, and its runs in order, with colours if some run has its own
abbrev pub window_commands : WinCue → List Run → List Command
window_commands w runs =
    Df (definition_of w) ∷ (attribute_commands w.attr
    ++ flat_map (run_commands (list_any (λ run. is_some run.colors) runs) (pen_style w.ps).0 (pen_style w.ps).1) runs)

-- the commands of a cue of a kind; a line 21 cue has none
abbrev pub commands_with : Kind → List Run → List Command
commands_with (Pop channel) runs = []
commands_with (Paint channel) runs = []
commands_with (Roll channel rows) runs = []
commands_with (Win window) runs = window_commands window runs

-- the commands of a cue
abbrev pub commands_of : Cue → List Command
commands_of cue = commands_with cue.kind cue.runs
