-- Believed: the program's answer stands on these definitions.
-- What `fit` makes of its input beside the list of a side file: which bytes are fitted as which list, why others are refused, and what is
-- put.
use Rattle.std.specs.Prelude.{◌⊎◌, ℕ, List, Some}
use Rattle.cc_base.specs.declared.why.Why.TheVariants as why
use Rattle.command_base.specs.MadeVerdict.{BesideVerdict, MadeVerdict}
use Rattle.command_base.specs.declared.status.Place.TheVariants.{Field}
use Rattle.command_base.specs.declared.status.Status.{Status}
use Rattle.command_base.specs.declared.status.Status.TheVariants as status
use Rattle.cue_list_commands.specs.Accepted.{IsGoodList, IsRefusedList, SpellGoodList}
use Rattle.cue_list_commands.specs.ListVerdict.{IsReadAgain}
use Rattle.cue_lists.specs.Listing.{Listing}
use Rattle.cue_lists.specs.Printing.{list_bytes}
use Rattle.dual_fit.specs.FittedBeside.{IsFittedBeside, LacksAlone, LacksTimes}
use Rattle.dual_plans.specs.OtherList.{IsJudged}

-- the bytes spell a list that keeps the rules, and this is what it is when it is fitted beside the first list
abbrev pub IsFittedAsBeside : ℕ → Listing → List ℕ → Listing → Type 0
IsFittedAsBeside late first bytes fitted = SpellGoodList bytes (λ list. IsFittedBeside late first list fitted)

-- a list that keeps the rules is refused with this status beside the first list: it isn't as that one asks; that one has no room by
-- itself; or a cue of it can't be fitted
abbrev pub IsMisfitBeside : ℕ → Listing → Listing → Status → Type 0
IsMisfitBeside late first list (status.Malformed (Field rec field) why.OtherList) = IsJudged first list (Some (record { rec = rec; field = field }))
IsMisfitBeside late first list (status.NoRoomBeside cue) = LacksAlone first list cue
IsMisfitBeside late first list (status.NoRoom cue) = LacksTimes late first list cue
IsMisfitBeside late first list _ = ⊥

-- the bytes are refused with this status, and with no other
abbrev pub IsRefusedFitBeside : ℕ → Listing → List ℕ → Status → Type 0
IsRefusedFitBeside late first bytes answer = IsRefusedList bytes answer ⊎ SpellGoodList bytes (λ list. IsMisfitBeside late first list answer)

-- `fit` beside a list: the fitted list, as it is written
abbrev pub FitBesideVerdict : ℕ → List ℕ → List ℕ → Status → List ℕ → Type 0
FitBesideVerdict late =
    BesideVerdict IsGoodList IsRefusedList
    (λ first. MadeVerdict (IsFittedAsBeside late first) list_bytes IsReadAgain (IsRefusedFitBeside late first))
