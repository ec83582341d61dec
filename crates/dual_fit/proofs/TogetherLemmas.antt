-- Lists that stand together, and those that don't.
use Rattle.std.proofs.Common.{◌≡◌, ◌∙◌, inl, inr, ℕ, List, [], Some, refl}
use Rattle.std.specs.declared.alloc.AllocError.{AllocError}
use Rattle.line21_codes.specs.declared.channels.FieldNumber.{FieldNumber}
use Rattle.line21_codes.specs.declared.channels.FieldNumber.TheVariants.{One, Two}
use Rattle.cue_lists.proofs.InOrder.{same_share}
use Rattle.cue_lists.specs.Listing.{IsFormed, Listing}
use Rattle.cue_lists.specs.declared.cue.Cue.{Cue}
use Rattle.cue_fit.specs.Fitted.{list_of}
use Rattle.dual_plans.proofs.OtherListLemmas.{alike_unjudged}
use Rattle.dual_plans.proofs.PairDecided.{judged_once}
use Rattle.dual_plans.specs.Clashes.{IsFieldClash}
use Rattle.dual_plans.specs.DualAnswer.{HasRoomBeside, IsDualFault, IsFirstWithoutBeside}
use Rattle.dual_plans.specs.OtherList.{AreAlike, IsJudged}
use Rattle.dual_plans.specs.Verdict.{Lacking, LackingBeside, Placed}
use Rattle.dual_plans.specs.declared.other_list.OtherField.{OtherField}
use Rattle.dual_plans.specs.declared.fault.DualFault.{DualFault}
use Rattle.dual_plans.specs.declared.fault.DualFault.TheVariants.{Memory, OtherList, FieldClash, NoRoom, NoRoomBeside}
use Rattle.dual_fit.specs.FittedBeside.{StandTogether}

module _ (one two : Listing) where
  -- what has a fault doesn't stand together
  pub other_apart : (rec field : ℕ) → IsDualFault one two (OtherList rec field) → StandTogether one two → ⊥
  other_apart rec field is stand = alike_unjudged one two (record { rec = rec; field = field }) stand.together.alike is

  pub clash_apart : (second first : ℕ) → IsDualFault one two (FieldClash second first) → StandTogether one two → ⊥
  clash_apart second first is stand = stand.together.apart second first is.1.clashes

  pub first_apart : (cue : ℕ) → IsDualFault one two (NoRoom cue) → StandTogether one two → ⊥
  first_apart cue is stand = judged_once one two stand.together (Placed stand.placed) (Lacking cue) stand.placement is.1

  pub second_apart : (cue : ℕ) → IsDualFault one two (NoRoomBeside cue) → StandTogether one two → ⊥
  second_apart cue is stand = judged_once one two stand.together (Placed stand.placed) (LackingBeside cue) stand.placement is.1

  -- so with any fault but the want of memory
  pub fault_apart : (fault : DualFault) → IsDualFault one two fault → ((error : AllocError) → fault ≡ Memory error → ⊥) → StandTogether one two → ⊥
  fault_apart (Memory error) is not = absurd (not error refl)
  fault_apart (OtherList rec field) is not = other_apart rec field is
  fault_apart (FieldClash second first) is not = clash_apart second first is
  fault_apart (NoRoom cue) is not = first_apart cue is
  fault_apart (NoRoomBeside cue) is not = second_apart cue is

  -- and with each of the others the second list is as the first asks, but with one
  pub fault_alike : (fault : DualFault) → IsDualFault one two fault → ((error : AllocError) → fault ≡ Memory error → ⊥)
      → ((rec field : ℕ) → fault ≡ OtherList rec field → ⊥) → AreAlike one two
  fault_alike (Memory error) is not other = absurd (not error refl)
  fault_alike (OtherList rec field) is not other = absurd (other rec field refl)
  fault_alike (FieldClash second first) is not other = is.0
  fault_alike (NoRoom cue) is not other = is.0.alike
  fault_alike (NoRoomBeside cue) is not other = is.0.alike

-- with other cues a second list is as the first asks; without cues it clashes with none, and lacks no room
module _ (one two : Listing) where
  pub listed_alike : (cues : List Cue) → IsFormed two → AreAlike one two → AreAlike one (list_of two cues)
  listed_alike cues formed alike = record {
    rate = alike.rate;
    frames = alike.frames;
    unshared = λ service. same_share two formed service ∙ alike.unshared service;
  }

  pub empty_unclashed : (second first : ℕ) → IsFieldClash one (list_of two []) second first → ⊥
  empty_unclashed second first (One, clash) = clash.of_second
  empty_unclashed second first (Two, clash) = clash.of_second

  pub empty_roomy : (cue : ℕ) → IsFirstWithoutBeside one (list_of two []) cue → ⊥
  empty_roomy cue without = at without.none.0 without.none.1
    where
      at : (in_field : FieldNumber) → (HasRoomBeside one (list_of two []) in_field (without.placed in_field) cue → ⊥) → ⊥
      at One none = none ([], tt)
      at Two none = none ([], tt)
