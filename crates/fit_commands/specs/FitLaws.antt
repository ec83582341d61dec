-- Between crates: the program's answer stands on none of these definitions.
-- The verdict of `fit`: a list is fitted, or it is refused with one status, and never both; and a fitted list is accepted.
use Rattle.std.specs.Prelude.{◌≡◌, ◌⊎◌, ℕ, ◌≤◌, List, length}
use Rattle.cc_base.specs.Streams.{whole_limit}
use Rattle.command_base.specs.declared.status.Status.{Status}
use Rattle.cue_fit.specs.Fitted.{most_late}
use Rattle.cue_list_commands.specs.Accepted.{IsAccepted}
use Rattle.cue_lists.specs.Listing.{Listing}
use Rattle.cue_lists.specs.Printing.{in_order, list_bytes}
use Rattle.frame_scheduler.specs.Planned.{Placement}
use Rattle.fit_commands.specs.FitVerdict.{IsFittedAs, IsRefusedFit}

-- what is written of a fitted list is accepted, where it keeps to the limit of a list's bytes
abbrev pub FittedIsAccepted : Type 0
FittedIsAccepted = (late : ℕ) (bytes : List ℕ) (fitted : Listing) → late ≤ most_late → IsFittedAs late bytes fitted → length (list_bytes fitted) ≤ whole_limit
    → (placed : Placement) × IsAccepted (list_bytes fitted) (in_order fitted) placed

-- bytes are fitted as one list
abbrev pub FittingIsOne : Type 0
FittingIsOne = (late : ℕ) (bytes : List ℕ) (one other : Listing) → IsFittedAs late bytes one → IsFittedAs late bytes other → one ≡ other

-- a list that is fitted is refused with no status
abbrev pub FittedIsNotRefused : Type 0
FittedIsNotRefused = (late : ℕ) (bytes : List ℕ) (fitted : Listing) (answer : Status) → IsFittedAs late bytes fitted → IsRefusedFit late bytes answer → ⊥

-- a list is refused with one status
abbrev pub FitRefusalIsOne : Type 0
FitRefusalIsOne = (late : ℕ) (bytes : List ℕ) (one other : Status) → IsRefusedFit late bytes one → IsRefusedFit late bytes other → one ≡ other

-- every list is fitted or refused
abbrev pub EveryListIsFitted : Type 0
EveryListIsFitted = (late : ℕ) (bytes : List ℕ) → late ≤ most_late
    → ((fitted : Listing) × IsFittedAs late bytes fitted) ⊎ ((answer : Status) × IsRefusedFit late bytes answer)

-- a list that is accepted is fitted as it is, its shares in order, and is written as it was
abbrev pub AcceptedIsFitted : Type 0
AcceptedIsFitted = (late : ℕ) (bytes : List ℕ) (list : Listing) (placed : Placement) → IsAccepted bytes list placed
    → IsFittedAs late bytes (in_order list) × (list_bytes (in_order list) ≡ list_bytes list)
