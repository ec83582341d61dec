-- Believed: the program's answer stands on these definitions.
-- A second list fitted beside a first one: it stays as it is if both stand together, and else each of its cues in turn is shown as few
-- frames later than it asks as the rules and the room beside the first list and after the cues so far let it.
use Rattle.std.specs.Prelude.{◌≡◌, ◌⊎◌, ℕ, ◌+◌, ◌<◌, ◌≤◌, Bool, List, [], ◌∷◌, ◌++◌, length, reverse, Option, Some, None}
use Rattle.cue_lists.specs.Listing.{Listing}
use Rattle.cue_lists.specs.Printing.{in_order}
use Rattle.cue_lists.specs.Rules.Former.{former_cue}
use Rattle.cue_lists.specs.declared.cue.Cue.{Cue}
use Rattle.cue_fit.specs.Fitted.{list_of}
use Rattle.cue_fit.specs.Shown.{takes_place}
use Rattle.dual_plans.specs.DualAnswer.{IsFirstWithout}
use Rattle.dual_plans.specs.DualPlacement.{DualPlacement, IsDualPlaced}
use Rattle.dual_plans.specs.FieldPlaces.{GoTogether}
use Rattle.dual_fit.specs.Timed.{with_timed}
use Rattle.dual_fit.specs.declared.times.Times.{Times}

-- both lists go together, and all of their units have a placement
pub record StandTogether (one two : Listing) : Type 0 where
  pub together : GoTogether one two
  pub placed : DualPlacement
  pub placement : IsDualPlaced one two placed

-- a HIDE that a cue may have with a SHOW: none where it asks none; else one after the SHOW, not before that which it asks, and at most
-- so many frames after that
abbrev pub IsHideWithin : ℕ → Cue → ℕ → Option ℕ → Type 0
IsHideWithin late cue show None = cue.hide ≡ None
IsHideWithin late cue show (Some hide) = (asked : ℕ) × (cue.hide ≡ Some asked) × (asked ≤ hide) × (hide ≤ asked + late) × (show < hide)

-- beside the first list and after the cues so far the cue may have these times
pub record MayStand (late : ℕ) (one two : Listing) (takes : Bool) (earlier : List Cue) (cue : Cue) (times : Times) : Type 0 where
  pub hide : IsHideWithin late cue times.show times.hide
  pub together : StandTogether one (list_of two (with_timed takes times cue earlier))

-- the first SHOW from that which it asks on with which some HIDE does, and the least HIDE that does with it
pub record AreTimes (late : ℕ) (one two : Listing) (takes : Bool) (earlier : List Cue) (cue : Cue) (times : Times) : Type 0 where
  pub from : cue.show ≤ times.show
  pub within : times.show ≤ cue.show + late
  pub may : MayStand late one two takes earlier cue times
  pub first : (other : Times) → cue.show ≤ other.show → other.show < times.show → MayStand late one two takes earlier cue other → ⊥
  pub least : (hide other : ℕ) → times.hide ≡ Some hide → other < hide → MayStand late one two takes earlier cue (record times { hide = Some other }) → ⊥

-- no SHOW from that which it asks on, at most this many frames after it, does with any HIDE
abbrev pub HasNoTimes : ℕ → Listing → Listing → Bool → List Cue → Cue → Type 0
HasNoTimes late one two takes earlier cue =
    (times : Times) → cue.show ≤ times.show → times.show ≤ cue.show + late → MayStand late one two takes earlier cue times → ⊥

-- cues at such times, one after the other and after the cues so far, which asked so: all of them, the newest first
abbrev pub AreFittedBeside : ℕ → Listing → Listing → List Cue → List Cue → List Cue → List Cue → Type 0
AreFittedBeside late one two asked earlier [] fitted = fitted ≡ earlier
AreFittedBeside late one two asked earlier (cue ∷ cues) fitted =
    let takes : Bool = takes_place cue (former_cue cue asked) in
    (times : Times) × AreTimes late one two takes earlier cue times
    × AreFittedBeside late one two (cue ∷ asked) (with_timed takes times cue earlier) cues fitted

-- the second list with all of its cues at such times, where both don't stand together as they are
pub record IsMovedBeside (late : ℕ) (one two fitted : Listing) : Type 0 where
  pub apart : StandTogether one two → ⊥
  pub alone : StandTogether one (list_of two [])
  pub cues : List Cue
  pub are : AreFittedBeside late one two [] [] two.cues cues
  pub is : fitted ≡ list_of two cues

-- the second list, as it is or moved; its shares stand in the order in which they are written
abbrev pub IsFittedBeside : ℕ → Listing → Listing → Listing → Type 0
IsFittedBeside late one two fitted = (StandTogether one two × (fitted ≡ in_order two)) ⊎ IsMovedBeside late one two fitted

-- after these cues, which are fitted, the cue has no such times
pub record LacksAfter (late : ℕ) (one two : Listing) (before : List Cue) (cue : Cue) : Type 0 where
  pub fitted : List Cue
  pub are : AreFittedBeside late one two [] [] before fitted
  pub none : HasNoTimes late one two (takes_place cue (former_cue cue (reverse before))) fitted cue

-- the cue of this number of the second list is the first that has no such times after those before it
pub record LacksTimes (late : ℕ) (one two : Listing) (number : ℕ) : Type 0 where
  pub apart : StandTogether one two → ⊥
  pub alone : StandTogether one (list_of two [])
  pub before : List Cue
  pub cue : Cue
  pub after : List Cue
  pub lacks : LacksAfter late one two before cue
  pub split : two.cues ≡ before ++ cue ∷ after
  pub number_is : number ≡ length before + 1

-- the cue of this number of the first list is its first without a placement by itself, beside a second list without cues
pub record LacksAlone (one two : Listing) (number : ℕ) : Type 0 where
  pub apart : StandTogether one two → ⊥
  pub together : GoTogether one (list_of two [])
  pub first : IsFirstWithout one (list_of two []) number
