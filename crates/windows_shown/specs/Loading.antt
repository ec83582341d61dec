-- Between crates: the program's answer stands on none of these definitions.
-- What the commands that load a window make of it (CTA-708-E, DefineWindow, SetWindowAttributes, and the commands of pens and text).
use Rattle.std.specs.Prelude.{◌≡◌, true, false, List, [], ◌∷◌, Option, Some, None, option_map}
use Rattle.std.specs.List.{AllByRecursion}
use Rattle.dtvcc_codes.specs.declared.commands.Command.{Command}
use Rattle.dtvcc_codes.specs.declared.commands.Command.TheVariants.{Df}
use Rattle.dtvcc_codes.specs.declared.windows.Definition.{Definition}
use Rattle.dtvcc_windows.specs.Defining.{defined}
use Rattle.dtvcc_windows.specs.Showing.{ShownWindow, shown}
use Rattle.dtvcc_windows.specs.Windows.{WindowState, with_visibility}
use Rattle.dtvcc_screen.specs.Commands.{edited_by}
use Rattle.dtvcc_screen.specs.Laws.{is_text}
use Rattle.cue_types.specs.declared.cue.Cue.{Cue}
use Rattle.frame_scheduler.specs.AuthoredServiceGrid.{cue_window}
use Rattle.dtvcc_author.specs.WindowCommands.{commands_of}

-- what commands make of the current window, one after another
abbrev pub edited_all : List Command → WindowState → WindowState
edited_all [] w = w
edited_all (command ∷ commands) w = edited_all commands (edited_by command w)

-- what commands make of a window that isn't there: DefineWindow makes it, and the others edit it
abbrev pub loaded_by : List Command → Option WindowState
loaded_by (Df d ∷ commands) = Some (edited_all commands (defined d None))
loaded_by _ = None

-- what is seen of that window, once it is shown
abbrev pub seen_behind : List Command → Option ShownWindow
seen_behind commands = shown (option_map (with_visibility true) (loaded_by commands))

-- the commands of a cue make the window that the cue list authors
abbrev pub IsLoadedAsAuthored : Cue → Type 0
IsLoadedAsAuthored cue = seen_behind (commands_of cue) ≡ cue_window cue.kind cue.runs

-- commands that define a window, hidden, and after that are text alone
pub record IsLoad (d : Definition) (commands : List Command) : Type 0 where
  pub text : List Command
  pub split : commands ≡ Df d ∷ text
  pub hidden : d.visible ≡ false
  pub texts : AllByRecursion (λ (command : Command). is_text command ≡ true) text
