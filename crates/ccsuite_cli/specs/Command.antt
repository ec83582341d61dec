-- Believed in part: the program's answer stands on some of these definitions.
-- The command lines of the program: the words of each command, the line of usage, and the side file that a command reads.
use Rattle.std.specs.Prelude.{◌≡◌, ◌≤◌, ◌++◌, ◌&&◌, not, ℕ, List, [], ◌∷◌, Option, option_map, Some, None, codes, if◌then◌else◌, Bool, IfSome, true, false, ⊤}
use Rattle.std.specs.List.{join_by}
use Rattle.std.specs.Option.{option_and_then, option_or}
use Rattle.cue_lists.specs.Fields.{named, number_within}
use Rattle.fit_commands.specs.Fitted.{most_late}
use Rattle.help_commands.specs.Pages.{pages}
use Rattle.help_commands.specs.declared.page.Page.TheVariants.{Commands}
use Rattle.load_commands.specs.LoadList.{most_load}
use Rattle.time_codes.specs.Countings.{has_drop_frame, is_time_code_in}
use Rattle.time_codes.specs.Texts.{time_of_text}
use Rattle.time_codes.specs.TimeCodes.{is_time_code}
use Rattle.time_codes.specs.declared.counting.Counting.{Counting}
use Rattle.time_codes.specs.declared.counting.Counting.TheVariants as counting
use Rattle.time_codes.specs.declared.time_code.TimeCode.{TimeCode}
use Rattle.ccsuite_cli.specs.declared.command.Command.{Command}
use Rattle.ccsuite_cli.specs.declared.command.Command.TheVariants.{Build, Conceal, Convert, Cues, Decode, Dual, Export, ExportMcc, Fit, FitBeside, Help, Import, ImportMcc, Insert, Load, Pairs, Show, Verify, Version, Xds, XdsShow}

-- the time code of a text, if it spells one and a frame of the day has it
abbrev pub start_of : List ℕ → Option TimeCode
start_of text = option_and_then (λ t. if is_time_code t then Some t else None) (time_of_text text)

-- how time codes of a rate count, each by its text
abbrev pub countings : List (List ℕ × Counting)
countings =
    (codes "24", counting.F24)
    ∷ (codes "25", counting.F25)
    ∷ (codes "30", counting.F30)
    ∷ (codes "30DF", counting.F30Drop)
    ∷ (codes "50", counting.F50)
    ∷ (codes "60", counting.F60)
    ∷ (codes "60DF", counting.F60Drop)
    ∷ []

-- the time code of a text, if it spells one that a frame of the day has, with the mark of drop frame exactly where the count has drop frame
abbrev pub start_in : Counting → List ℕ → Option TimeCode
start_in count text =
    option_and_then (λ t. if is_time_code_in count t && (if has_drop_frame count then t.drop_frame else not t.drop_frame) then Some t else None)
    (time_of_text text)

-- a command whose time code, if it has one, is of the day, and whose number, if it has one, is a load's or a fit's
abbrev pub IsRunnable : Option Command → Type 0
IsRunnable (Some (Import time)) = IfSome time (λ start. is_time_code start ≡ true)
IsRunnable (Some (Export time)) = is_time_code time ≡ true
IsRunnable (Some (ExportMcc count time)) = is_time_code_in count time ≡ true
IsRunnable (Some (Load count)) = (1 ≤ count) × (count ≤ most_load)
IsRunnable (Some (Fit late)) = late ≤ most_late
IsRunnable (Some (FitBeside late)) = late ≤ most_late
IsRunnable _ = ⊤

-- what follows the word of a command: nothing, or nothing or one argument, by what the line of usage has of it, or one argument, or two,
-- or one or two, by their names there, which make it a command, if they make it one
pub data Behind : Type 0 where
  Nothing : Command → Behind
  Optional : List ℕ → Command → (List ℕ → Option Command) → Behind
  Argument : List ℕ → (List ℕ → Option Command) → Behind
  Arguments : List ℕ → List ℕ → (List ℕ → List ℕ → Option Command) → Behind
  OneOrTwo : List ℕ → List ℕ → (List ℕ → Option Command) → (List ℕ → List ℕ → Option Command) → Behind

-- the most frames that a cue may be shown late, by their text
abbrev pub late_of : List ℕ → Option ℕ
late_of = number_within 0 most_late

-- the commands, each by its word and what follows it, as the line of usage has them
abbrev pub commands : List (List ℕ × Behind)
commands =
    (codes "pairs", Nothing Pairs)
    ∷ (codes "build", Nothing Build)
    ∷ (codes "decode", Nothing Decode)
    ∷ (codes "show", Argument (codes "FRAME") (λ frame. option_map Show (number_within 0 4294967294 frame)))
    ∷ (codes "verify", Argument (codes "CUES") (λ path. Some Verify))
    ∷ (codes "insert", Argument (codes "CUES") (λ path. Some Insert))
    ∷ (codes "import", Optional (codes " [TIME]") (Import None) (λ time. option_map (λ start. Import (Some start)) (start_of time)))
    ∷ (codes "export", Argument (codes "TIME") (λ time. option_map Export (start_of time)))
    ∷ (codes "cues", Nothing Cues)
    ∷ (codes "load", Argument (codes "N") (λ count. option_map Load (number_within 1 most_load count)))
    ∷ (codes "dual", Argument (codes "CUES") (λ path. Some Dual))
    ∷ (codes "xds", Argument (codes "PACKETS") (λ path. Some Xds))
    ∷ (codes "xds-show", Nothing XdsShow)
    ∷ (codes "conceal", Nothing Conceal)
    ∷ (codes "convert", Nothing Convert)
    ∷ (codes "import-mcc", Nothing ImportMcc)
    ∷ (
      codes "export-mcc",
      Arguments (codes "RATE") (codes "TIME")
          (λ rate time. option_and_then (λ count. option_map (ExportMcc count) (start_in count time)) (named countings rate)),
    )
    ∷ (codes "fit", OneOrTwo (codes "N") (codes "CUES") (λ late. option_map Fit (late_of late)) (λ late path. option_map FitBeside (late_of late)))
    ∷ (codes "help", Optional [] (Help Commands) (λ word. option_map Help (named pages word)))
    ∷ (codes "version", Nothing Version)
    ∷ []

-- other words for some of them, which the line of usage hasn't
abbrev pub other_words : List (List ℕ × Command)
other_words =
    (codes "--help", Help Commands)
    ∷ (codes "-h", Help Commands)
    ∷ (codes "--version", Version)
    ∷ []

-- the command of what follows its word, if these arguments make it one
abbrev pub with_arguments : List (List ℕ) → Behind → Option Command
with_arguments [] (Nothing command) = Some command
with_arguments [] (Optional shown command more) = Some command
with_arguments (argument ∷ []) (Optional shown command more) = more argument
with_arguments (argument ∷ []) (Argument name command) = command argument
with_arguments (one ∷ other ∷ []) (Arguments name another command) = command one other
with_arguments (one ∷ []) (OneOrTwo name another command more) = command one
with_arguments (one ∷ other ∷ []) (OneOrTwo name another command more) = more one other
with_arguments _ _ = None

-- the command that these words are, if they are one
abbrev pub command_of : List (List ℕ) → Option Command
command_of [] = None
command_of (word ∷ []) = option_or (option_and_then (with_arguments []) (named commands word)) (named other_words word)
command_of (word ∷ arguments) = option_and_then (with_arguments arguments) (named commands word)

-- the command reads a side file
abbrev pub has_side_file : Option Command → Bool
has_side_file (Some Verify) = true
has_side_file (Some Insert) = true
has_side_file (Some Dual) = true
has_side_file (Some Xds) = true
has_side_file (Some (FitBeside late)) = true
has_side_file _ = false

-- the path of the side file of these words: the last argument of a command that reads one
abbrev pub side_path : List (List ℕ) → Option (List ℕ)
side_path (word ∷ path ∷ []) = if has_side_file (command_of (word ∷ path ∷ [])) then Some path else None
side_path (word ∷ one ∷ path ∷ []) = if has_side_file (command_of (word ∷ one ∷ path ∷ [])) then Some path else None
side_path _ = None

-- how the line of usage has a command
abbrev pub usage_of : List ℕ × Behind → List ℕ
usage_of (word, Nothing command) = word
usage_of (word, Optional shown command more) = word ++ shown
usage_of (word, Argument name command) = word ++ codes " " ++ name
usage_of (word, Arguments name another command) = word ++ codes " " ++ name ++ codes " " ++ another
usage_of (word, OneOrTwo name another command more) = word ++ codes " " ++ name ++ codes " [" ++ another ++ codes "]"

-- the line for words that are no command: all commands, with a bar between each two
abbrev pub usage_line : List ℕ
usage_line = codes "usage: ccsuite " ++ join_by usage_of (codes "|") commands ++ codes "\n"
