-- Believed: the program's answer stands on these definitions.
-- What the commands make of their input that read a cue list.
use Rattle.std.specs.Prelude.{◌≡◌, ℕ, List}
use Rattle.command_base.specs.MadeVerdict.{MadeVerdict}
use Rattle.command_base.specs.declared.status.Status.{Status}
use Rattle.cue_list_commands.specs.Accepted.{IsGoodList, IsRefused, IsRefusedList}
use Rattle.cue_list_commands.specs.Output.{IsPlacedAs, IsSoundPairs, IsSoundWords, framing_of, lines_of}
use Rattle.cue_lists.specs.Listing.{Listing}
use Rattle.cue_lists.specs.Printing.{in_order, list_bytes}
use Rattle.cue_lists.specs.Records.{records_of}
use Rattle.cue_lists.specs.Spelling.{list_records}
use Rattle.cue_lists.specs.declared.head.Version.TheVariants as version
use Rattle.frame_carrier.specs.Framing.{words_of}

-- `pairs`: the lines of the frames of an accepted list
abbrev pub PairsVerdict : List ℕ → Status → List ℕ → Type 0
PairsVerdict = MadeVerdict IsPlacedAs (λ made. lines_of (framing_of made)) IsSoundPairs IsRefused

-- `build`: their words
abbrev pub BuildVerdict : List ℕ → Status → List ℕ → Type 0
BuildVerdict = MadeVerdict IsPlacedAs (λ made. words_of (framing_of made)) IsSoundWords IsRefused

-- what is written of a list in version 2 is read as that list again
abbrev pub IsReadAgain : Listing → Type 0
IsReadAgain list = records_of (list_bytes list) ≡ list_records version.Two (in_order list)

-- `cues`: a list that keeps the rules, whether it has room or not, as it is written
abbrev pub CuesVerdict : List ℕ → Status → List ℕ → Type 0
CuesVerdict = MadeVerdict IsGoodList list_bytes IsReadAgain IsRefusedList
