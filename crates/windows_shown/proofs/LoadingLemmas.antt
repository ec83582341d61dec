-- The commands of a window cue are a definition and text, and leave its window hidden.
use Rattle.std.proofs.Common.{◌≡◌, ◌∙◌, ℕ, zero, suc, Bool, true, false, List, [], ◌∷◌, ◌++◌, Option, Some, None, take, refl, ap}
use Rattle.std.specs.Prelude.{is_some}
use Rattle.std.specs.List.{AllByRecursion, flat_map}
use Rattle.dtvcc_codes.specs.declared.commands.Command.{Command}
use Rattle.dtvcc_codes.specs.declared.pens.PenAttr.{PenAttr}
use Rattle.dtvcc_codes.specs.declared.pens.PenColors.{PenColors}
use Rattle.dtvcc_codes.specs.declared.windows.WinAttr.{WinAttr}
use Rattle.dtvcc_windows.specs.Defining.{made}
use Rattle.dtvcc_windows.specs.Showing.{shown}
use Rattle.dtvcc_windows.specs.Styles.{pen_style}
use Rattle.dtvcc_windows.specs.Windows.{WindowState}
use Rattle.dtvcc_screen.specs.Commands.{edited_by}
use Rattle.dtvcc_screen.specs.Laws.{is_text}
use Rattle.dtvcc_screen.specs.Screens.{ScreenState, on_current}
use Rattle.dtvcc_screen.proofs.HiddenLemmas.{edit_unseen}
use Rattle.cue_types.specs.declared.cue.Cue.{Cue}
use Rattle.cue_types.specs.declared.cue.Kind.{Kind}
use Rattle.cue_types.specs.declared.cue.Kind.TheVariants.{Pop, Paint, Roll, Win}
use Rattle.cue_types.specs.declared.cue.Run.{Run}
use Rattle.cue_types.specs.declared.cue.WinCue.{WinCue}
use Rattle.dtvcc_author.specs.WindowCommands.{are_coloured, attribute_commands, character_commands, color_commands, commands_of, commands_with, definition_of, run_commands, window_commands}
use Rattle.windows_shown.specs.Loading.{IsLoad, edited_all, loaded_by}

-- commands of text
abbrev AreText : List Command → Type 0
AreText commands = AllByRecursion (λ (command : Command). is_text command ≡ true) commands

-- of two lists
AreText-append : (commands more : List Command) → AreText commands → AreText more → AreText (commands ++ more)
AreText-append [] more all too = too
AreText-append (command ∷ commands) more all too = (all.0, AreText-append commands more all.1 too)

attributes_text : (attributes : Option WinAttr) → AreText (attribute_commands attributes)
attributes_text None = tt
attributes_text (Some attributes) = (refl, tt)

colors_text : (coloured : Bool) (style : PenColors) (own : Option PenColors) → AreText (color_commands coloured style own)
colors_text false style own = tt
colors_text true style own = (refl, tt)

characters_text : (text : List ℕ) → AreText (character_commands text)
characters_text [] = tt
characters_text (ch ∷ text) = (refl, characters_text text)

runs_text : (coloured : Bool) (pen : PenAttr) (colors : PenColors) (runs : List Run) → AreText (flat_map (run_commands coloured pen colors) runs)
runs_text coloured pen colors [] = tt
runs_text coloured pen colors (run ∷ runs) =
    let own = color_commands coloured colors run.colors in
    AreText-append (run_commands coloured pen colors run) (flat_map (run_commands coloured pen colors) runs)
    (refl, (refl, AreText-append own (character_commands run.text) (colors_text coloured colors run.colors) (characters_text run.text)))
    (runs_text coloured pen colors runs)

-- what follows the definition of a window
abbrev pub text_of : WinCue → List Run → List Command
text_of w runs = attribute_commands w.attr ++ flat_map (run_commands (are_coloured runs) (pen_style w.ps).0 (pen_style w.ps).1) runs

pub window_load : (w : WinCue) (runs : List Run) → IsLoad (definition_of w) (window_commands w runs)
window_load w runs = record {
  text = text_of w runs;
  split = refl;
  hidden = refl;
  texts = AreText-append (attribute_commands w.attr) (flat_map (run_commands (are_coloured runs) (pen_style w.ps).0 (pen_style w.ps).1) runs)
      (attributes_text w.attr) (runs_text (are_coloured runs) (pen_style w.ps).0 (pen_style w.ps).1 runs);
}

-- an edit of a window that isn't seen
pub edit_hidden : (command : Command) (w : WindowState) → shown (Some w) ≡ None → shown (Some (edited_by command w)) ≡ None
edit_hidden command w hidden =
    let screen : ScreenState = record { windows = λ (id : ℕ). Some w; current = Some 0 } in
    edit_unseen command screen (on_current (edited_by command) screen) 0 (Some w) refl refl (ap is_some hidden) refl 0 ∙ hidden

edits_hidden : (commands : List Command) (w : WindowState) → shown (Some w) ≡ None → shown (Some (edited_all commands w)) ≡ None
edits_hidden [] w hidden = hidden
edits_hidden (command ∷ commands) w hidden = edits_hidden commands (edited_by command w) (edit_hidden command w hidden)

-- the first commands of a cue
first_hidden : (kind : Kind) (runs : List Run) (count : ℕ) → shown (loaded_by (take count (commands_with kind runs))) ≡ None
first_hidden kind runs zero = refl
first_hidden (Pop channel) runs (suc count) = refl
first_hidden (Paint channel) runs (suc count) = refl
first_hidden (Roll channel rows) runs (suc count) = refl
first_hidden (Win w) runs (suc count) = edits_hidden (take count (text_of w runs)) (made (definition_of w)) refl

pub commands_hidden : (cue : Cue) (count : ℕ) → shown (loaded_by (take count (commands_of cue))) ≡ None
commands_hidden cue count = first_hidden cue.kind cue.runs count
