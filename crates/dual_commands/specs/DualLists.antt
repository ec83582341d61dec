-- Believed: the program's answer stands on these definitions.
-- Which cue lists are accepted together, and why a first list is refused beside a second one.
use Rattle.std.specs.Prelude.{◌≡◌, ◌⊎◌, ℕ, List, Some}
use Rattle.cc_base.specs.declared.why.Why.TheVariants as why
use Rattle.command_base.specs.declared.status.Place.TheVariants.{Field}
use Rattle.command_base.specs.declared.status.Status.{Status}
use Rattle.command_base.specs.declared.status.Status.TheVariants as status
use Rattle.cue_list_commands.specs.Accepted.{IsGoodList, IsRefusedList, SpellGoodList}
use Rattle.cue_lists.specs.Listing.{Listing}
use Rattle.cue_lists.specs.declared.rules.RuleFault.{RuleFault}
use Rattle.dual_plans.specs.DualAnswer.{IsFirstWithout, IsFirstWithoutBeside}
use Rattle.dual_plans.specs.DualPlacement.{DualPlacement, IsDualPlaced}
use Rattle.dual_plans.specs.FieldPlaces.{GoTogether}
use Rattle.dual_plans.specs.OtherList.{AreAlike, IsJudged}
use Rattle.dual_plans.specs.Clashes.{IsFieldClash, IsLeastClash}

-- two lists that are placed together
pub record PlacedLists : Type 0 where
  pub one : Listing
  pub two : Listing
  pub placed : DualPlacement

-- the bytes are accepted as the first of them beside this second one: both go together, and all of their units have their earliest
-- placements
pub record IsPlacedBeside (second : Listing) (bytes : List ℕ) (lists : PlacedLists) : Type 0 where
  pub good : IsGoodList bytes lists.one
  pub second_is : lists.two ≡ second
  pub together : GoTogether lists.one lists.two
  pub placement : IsDualPlaced lists.one lists.two lists.placed

-- the fault names the least cue of the second list of which an event holds a slot of a field that one of the first list holds, and
-- the least cue of the first list with it
pub record Clashes (one two : Listing) (fault : RuleFault) : Type 0 where
  pub alike : AreAlike one two
  pub first : ℕ
  pub least : IsLeastClash (IsFieldClash one two) (record { second = fault.cue; first = first })
  pub fault_is : fault ≡ record { why = why.FieldClash; cue = fault.cue; other = Some first }

-- two lists that keep the rules are refused with this status, and with no other
abbrev pub IsRefusedPair : Listing → Listing → Status → Type 0
IsRefusedPair one two (status.Malformed (Field rec field) why.OtherList) = IsJudged one two (Some (record { rec = rec; field = field }))
IsRefusedPair one two (status.Rule fault) = Clashes one two fault
IsRefusedPair one two (status.NoRoom cue) = GoTogether one two × IsFirstWithout one two cue
IsRefusedPair one two (status.NoRoomBeside cue) = GoTogether one two × IsFirstWithoutBeside one two cue
IsRefusedPair one two _ = ⊥

-- the bytes are refused: as a list, or as one that keeps the rules beside the second one
abbrev pub IsRefusedBeside : Listing → List ℕ → Status → Type 0
IsRefusedBeside second bytes answer = IsRefusedList bytes answer ⊎ SpellGoodList bytes (λ one. IsRefusedPair one second answer)
