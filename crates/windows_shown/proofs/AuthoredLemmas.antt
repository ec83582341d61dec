-- The commands of a window cue that keeps the rules make the window that the cue list authors.
use Rattle.std.proofs.Common.{◌≡◌, ◌∙◌, ℕ, ◌≤◌, ◌==◌, Bool, true, false, cond, List, [], ◌∷◌, All, Option, Some, None, is_some, refl, ap, arith}
use Rattle.std.specs.Prelude.{unwrap_or}
use Rattle.std.specs.List.{AllByRecursion, flat_map}
use Rattle.std.proofs.lemmas.Bool.{eq-eqb, or_parts}
use Rattle.std.proofs.lemmas.Bool.Decides.{nat_tests}
use Rattle.std.proofs.lemmas.List.Elements.{recursion_from_All}
use Rattle.dtvcc_codes.specs.declared.windows.WinAttr.{WinAttr}
use Rattle.dtvcc_windows.specs.Defining.{made, style_or_first}
use Rattle.dtvcc_windows.specs.Places.{Cells, no_cells}
use Rattle.dtvcc_windows.specs.Showing.{shown}
use Rattle.dtvcc_windows.specs.Styles.{pen_style, window_style}
use Rattle.dtvcc_windows.specs.Windows.{WindowState, with_visibility}
use Rattle.cue_types.specs.Cells.{have_shared_cell}
use Rattle.cue_types.specs.Channels.{cues_of_service, is_of_service}
use Rattle.cue_types.specs.Cues.{IsCueFormed, IsOfKind}
use Rattle.cue_types.specs.Listing.{IsFormed, Listing}
use Rattle.cue_types.specs.Windows.{IsWindow, IsWindowRun}
use Rattle.cue_types.specs.declared.cue.Cue.{Cue}
use Rattle.cue_types.specs.declared.cue.Kind.{Kind}
use Rattle.cue_types.specs.declared.cue.Kind.TheVariants.{Pop, Paint, Roll, Win}
use Rattle.cue_types.specs.declared.cue.Run.{Run}
use Rattle.cue_types.specs.declared.cue.WinCue.{WinCue}
use Rattle.frame_scheduler.specs.Rules.{IsRuled}
use Rattle.frame_scheduler.proofs.RulesSaid.{lanes_ruled}
use Rattle.frame_scheduler.specs.Rules.Sentences.{AreInService}
use Rattle.frame_scheduler.specs.AuthoredServiceGrid.{authored_window, cue_window, written_cells}
use Rattle.dtvcc_author.specs.WindowCommands.{are_coloured, attribute_commands, commands_with, definition_of, run_commands, window_commands}
use Rattle.windows_shown.specs.Loading.{IsLoadedAsAuthored, edited_all, seen_behind}
use Rattle.windows_shown.proofs.LoadedTextLemmas.{edited_all-append, hidden}
use Rattle.windows_shown.proofs.LoadingLemmas.{text_of}
use Rattle.windows_shown.proofs.RunLemmas.{HasCells, runs_on}
use Rattle.windows_shown.proofs.ApartLemmas.{cells_are}

-- a style that is named
style_is : (style : ℕ) → 1 ≤ style → style_or_first style ≡ style
style_is style some = let named : (style == 0) ≡ false = grind (arith, nat_tests) in rw named refl

-- the window as it is made, before its attributes and its runs
abbrev new_window : WinCue → WinAttr → WindowState
new_window w attributes = hidden (definition_of w) attributes no_cells 0 0 (pen_style w.ps).0 (pen_style w.ps).1

made_is : (w : WinCue) → IsWindow w → made (definition_of w) ≡ new_window w (window_style w.ws)
made_is w formed =
    ap (λ n. hidden (definition_of w) (window_style n) no_cells 0 0 (pen_style (style_or_first w.ps)).0 (pen_style (style_or_first w.ps)).1) (style_is w.ws formed.ws.0)
    ∙ ap (λ n. hidden (definition_of w) (window_style w.ws) no_cells 0 0 (pen_style n).0 (pen_style n).1) (style_is w.ps formed.ps.0)

-- its attributes
attributes_on : (w : WinCue) (own : Option WinAttr) (style : WinAttr) → edited_all (attribute_commands own) (new_window w style) ≡ new_window w (unwrap_or own style)
attributes_on w None style = refl
attributes_on w (Some attributes) style = refl

-- where no run has colours of its own, each has none
uncoloured : (runs : List Run) (coloured : Bool) → are_coloured runs ≡ coloured → AllByRecursion (λ (run : Run). coloured ≡ false → is_some run.colors ≡ false) runs
uncoloured runs true is = all runs
  where
    all : (rest : List Run) → AllByRecursion (λ (run : Run). true ≡ false → is_some run.colors ≡ false) rest
    all [] = tt
    all (run ∷ rest) = (λ never. cc, all rest)
uncoloured [] false is = tt
uncoloured (run ∷ runs) false is =
    let parts = or_parts (is_some run.colors) (are_coloured runs) is in (λ plain. parts.0, uncoloured runs false parts.1)

-- a window's commands
loaded_is : (w : WinCue) (runs : List Run) → IsWindow w → All (IsWindowRun w) runs → have_shared_cell runs ≡ false
    → HasCells (definition_of w) (unwrap_or w.attr (window_style w.ws)) (written_cells w.ps runs)
    (edited_all (text_of w runs) (made (definition_of w)))
loaded_is w runs formed placed apart =
    let commands = flat_map (run_commands (are_coloured runs) (pen_style w.ps).0 (pen_style w.ps).1) runs in
    let attributes : WinAttr = unwrap_or w.attr (window_style w.ws) in
    let behind = runs_on (are_coloured runs) runs w attributes no_cells 0 0 (pen_style w.ps).0 (pen_style w.ps).1 placed (λ plain. refl)
    (uncoloured runs (are_coloured runs) refl) in
    record {
      row = behind.row;
      col = behind.col;
      pen = behind.pen;
      colors = behind.colors;
      is = ap (edited_all (text_of w runs)) (made_is w formed)
          ∙ edited_all-append (attribute_commands w.attr) commands (new_window w (window_style w.ws))
          ∙ ap (edited_all commands) (attributes_on w w.attr (window_style w.ws))
          ∙ behind.is
          ∙ ap (λ (g : Cells). hidden (definition_of w) attributes g behind.row behind.col behind.pen behind.colors) (cells_are w.ps runs apart);
    }

window_as_authored : (w : WinCue) (runs : List Run) → IsWindow w → All (IsWindowRun w) runs → have_shared_cell runs ≡ false
    → seen_behind (window_commands w runs) ≡ Some (authored_window w runs)
window_as_authored w runs formed placed apart =
    let loaded = loaded_is w runs formed placed apart in
    ap (λ (window : WindowState). shown (Some (with_visibility true window))) loaded.is

-- a cue, which shares no cell where it has a window
kind_as_authored : (kind : Kind) (hide : Option ℕ) (runs : List Run) → IsOfKind kind hide runs
    → ((service : ℕ) → is_of_service service kind ≡ true → have_shared_cell runs ≡ false)
    → seen_behind (commands_with kind runs) ≡ cue_window kind runs
kind_as_authored (Pop channel) hide runs formed apart = refl
kind_as_authored (Paint channel) hide runs formed apart = refl
kind_as_authored (Roll channel rows) hide runs formed apart = refl
kind_as_authored (Win w) hide runs formed apart =
    window_as_authored w runs formed.0 formed.2 (apart w.service (eq-eqb w.service w.service refl))

-- the runs of each cue of a service share no cell
service_apart : (list : Listing) (service : ℕ) (cues : List Cue) → AreInService list service (cues_of_service service cues)
    → AllByRecursion (λ (cue : Cue). is_of_service service cue.kind ≡ true → have_shared_cell cue.runs ≡ false) cues
service_apart list service [] ruled = tt
service_apart list service (cue ∷ cues) ruled = at (is_of_service service cue.kind) ruled (service_apart list service cues)
  where
    at : (own : Bool) → AreInService list service (cond own (cue ∷ cues_of_service service cues) (cues_of_service service cues))
        → (AreInService list service (cues_of_service service cues) → AllByRecursion (λ (other : Cue). is_of_service service other.kind ≡ true → have_shared_cell other.runs ≡ false) cues)
        → (own ≡ true → have_shared_cell cue.runs ≡ false)
        × AllByRecursion (λ (other : Cue). is_of_service service other.kind ≡ true → have_shared_cell other.runs ≡ false) cues
    at true here rest = (λ own. here.0.apart, rest here.2)
    at false here rest = (λ own. cc, rest here)

-- each cue of a list
cues_as_authored : (cues : List Cue) → AllByRecursion IsCueFormed cues
    → ((service : ℕ) → AllByRecursion (λ (cue : Cue). is_of_service service cue.kind ≡ true → have_shared_cell cue.runs ≡ false) cues)
    → AllByRecursion IsLoadedAsAuthored cues
cues_as_authored [] formed apart = tt
cues_as_authored (cue ∷ cues) formed apart = (
  kind_as_authored cue.kind cue.hide cue.runs formed.0.kind (λ service. (apart service).0),
  cues_as_authored cues formed.1 (λ service. (apart service).1),
)

pub list_as_authored : (list : Listing) → IsFormed list → IsRuled list → AllByRecursion IsLoadedAsAuthored list.cues
list_as_authored list formed ruled =
    cues_as_authored list.cues (recursion_from_All IsCueFormed list.cues formed.cues)
    (λ service. service_apart list service list.cues ((lanes_ruled list ruled).services service))
