-- Between crates: the program's answer stands on none of these definitions.
-- Laws of fitting beside a first list.
use Rattle.std.specs.Prelude.{◌≡◌, ℕ}
use Rattle.cue_lists.specs.Listing.{Listing}
use Rattle.dual_fit.specs.FittedBeside.{IsFittedBeside, LacksTimes, StandTogether}

-- a fitted list stands beside the first one
abbrev pub FittedStandsBeside : Type 0
FittedStandsBeside = (late : ℕ) (one two fitted : Listing) → IsFittedBeside late one two fitted → StandTogether one fitted

-- a list is fitted in one way
abbrev pub FittingBesideIsOne : Type 0
FittingBesideIsOne = (late : ℕ) (one two a b : Listing) → IsFittedBeside late one two a → IsFittedBeside late one two b → a ≡ b

-- a list of which a cue has no times isn't fitted
abbrev pub LackingIsNotFitted : Type 0
LackingIsNotFitted = (late : ℕ) (one two fitted : Listing) (number : ℕ) → LacksTimes late one two number → IsFittedBeside late one two fitted → ⊥
