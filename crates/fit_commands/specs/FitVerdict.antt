-- Believed: the program's answer stands on these definitions.
-- What `fit` makes of its input: which bytes are fitted as which list, why others are refused, and what is put.
use Rattle.std.specs.Prelude.{ℕ, List}
use Rattle.command_base.specs.MadeVerdict.{MadeVerdict}
use Rattle.command_base.specs.declared.status.Status.{Status}
use Rattle.command_base.specs.declared.status.Status.TheVariants as status
use Rattle.cue_fit.specs.Fitted.{IsFitted, LacksShow}
use Rattle.cue_list_commands.specs.Accepted.{IsRefusedList, SpellGoodList}
use Rattle.cue_list_commands.specs.ListVerdict.{IsReadAgain}
use Rattle.cue_lists.specs.Listing.{Listing}
use Rattle.cue_lists.specs.Printing.{list_bytes}

-- the bytes spell a list that keeps the rules, and this is what it is when it is fitted
abbrev pub IsFittedAs : ℕ → List ℕ → Listing → Type 0
IsFittedAs late bytes fitted = SpellGoodList bytes (λ list. IsFitted late list fitted)

-- the bytes are refused with this status, and with no other: a list that keeps the rules with its first cue that can't be shown
abbrev pub IsRefusedFit : ℕ → List ℕ → Status → Type 0
IsRefusedFit late bytes (status.NoRoom cue) = SpellGoodList bytes (λ list. LacksShow late list cue)
IsRefusedFit late bytes answer = IsRefusedList bytes answer

-- `fit`: the fitted list, as it is written
abbrev pub FitVerdict : ℕ → List ℕ → Status → List ℕ → Type 0
FitVerdict late = MadeVerdict (IsFittedAs late) list_bytes IsReadAgain (IsRefusedFit late)
