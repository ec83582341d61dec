-- Believed: the program's answer stands on these definitions.
-- What `dual` makes of a first list beside the second one of its side file.
use Rattle.std.specs.Prelude.{ℕ, List}
use Rattle.command_base.specs.MadeVerdict.{BesideVerdict, MadeVerdict}
use Rattle.command_base.specs.declared.status.Status.{Status}
use Rattle.cue_list_commands.specs.Accepted.{IsGoodList, IsRefusedList}
use Rattle.dual_commands.specs.DualLists.{IsPlacedBeside, IsRefusedBeside}
use Rattle.dual_commands.specs.DualWords.{IsSoundDual, dual_framing}
use Rattle.cue_list_commands.specs.Framing.{words_of}

-- `dual`: the words of both lists
abbrev pub DualVerdict : List ℕ → List ℕ → Status → List ℕ → Type 0
DualVerdict =
    BesideVerdict IsGoodList IsRefusedList
    (λ second. MadeVerdict (IsPlacedBeside second) (λ lists. words_of (dual_framing lists)) IsSoundDual (IsRefusedBeside second))
