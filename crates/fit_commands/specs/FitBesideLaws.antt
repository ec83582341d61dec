-- Between crates: the program's answer stands on none of these definitions.
-- A law of `fit` beside a list.
use Rattle.std.specs.Prelude.{ℕ, ◌≤◌, List, length}
use Rattle.cc_base.specs.Streams.{whole_limit}
use Rattle.cue_list_commands.specs.Accepted.{IsGoodList}
use Rattle.cue_lists.specs.Listing.{Listing}
use Rattle.cue_lists.specs.Printing.{in_order, list_bytes}
use Rattle.dual_commands.specs.DualLists.{IsPlacedBeside, PlacedLists}
use Rattle.fit_commands.specs.FitBesideVerdict.{IsFittedAsBeside}

-- what is written of a list that is fitted beside a first one goes beside it: `dual` takes both, where it keeps to the limit of a list's bytes
abbrev pub FittedGoesBeside : Type 0
FittedGoesBeside = (late : ℕ) (cues bytes : List ℕ) (first fitted : Listing) → IsGoodList cues first → IsFittedAsBeside late first bytes fitted
    → length (list_bytes fitted) ≤ whole_limit
    → IsGoodList (list_bytes fitted) (in_order fitted) × ((lists : PlacedLists) × IsPlacedBeside (in_order fitted) cues lists)
