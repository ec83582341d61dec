-- Between crates: the program's answer stands on none of these definitions.
-- Each pair of lists that go together is judged once: the units of both have their placements, or a cue of the first list has none, or
-- one of the second has none beside the first's.
use Rattle.std.specs.Prelude.{◌≡◌, ℕ}
use Rattle.cue_lists.specs.Listing.{Listing}
use Rattle.dual_plans.specs.DualAnswer.{IsFirstWithout, IsFirstWithoutBeside}
use Rattle.dual_plans.specs.DualPlacement.{DualPlacement, IsDualPlaced, dual_columns}
use Rattle.dual_plans.specs.FieldPlaces.{GoTogether}

pub data Verdict : Type 0 where
  Placed : DualPlacement → Verdict
  Lacking : ℕ → Verdict
  LackingBeside : ℕ → Verdict

abbrev pub IsVerdict : Listing → Listing → Verdict → Type 0
IsVerdict one two (Placed placed) = IsDualPlaced one two placed
IsVerdict one two (Lacking cue) = IsFirstWithout one two cue
IsVerdict one two (LackingBeside cue) = IsFirstWithoutBeside one two cue

-- there is one
abbrev pub EachPairIsJudged : Type 0
EachPairIsJudged = (one two : Listing) → GoTogether one two → (verdict : Verdict) × IsVerdict one two verdict

-- two verdicts are one: both give the same frames, or both name the same cue of the same list
abbrev pub AreOne : Listing → Listing → Verdict → Verdict → Type 0
AreOne one two (Placed a) (Placed b) = dual_columns one two a ≡ dual_columns one two b
AreOne one two (Lacking a) (Lacking b) = a ≡ b
AreOne one two (LackingBeside a) (LackingBeside b) = a ≡ b
AreOne one two _ _ = ⊥

-- and no other
abbrev pub NoPairIsJudgedTwice : Type 0
NoPairIsJudgedTwice = (one two : Listing) → GoTogether one two → (a b : Verdict) → IsVerdict one two a → IsVerdict one two b → AreOne one two a b
