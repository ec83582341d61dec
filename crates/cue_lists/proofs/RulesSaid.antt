-- A list keeps the rules exactly where no cue of it has a fault by the tests, and exactly where the cues of each lane keep them.
-- Its fault is the one that the tests find.
use Rattle.std.proofs.Common.{◌≡◌, ℕ, ◌+◌, List, [], ◌∷◌, ◌++◌, get_or, length, reverse, Option, Some, None, refl, sym, ap, subst, ◌∙◌, inl, inr}
use Rattle.std.specs.Prelude.{All}
use Rattle.std.specs.List.{AllByRecursion}
use Rattle.cc_base.specs.declared.why.Why.{Why}
use Rattle.cc_base.specs.declared.why.Why.TheVariants as why
use Rattle.cue_types.specs.Listing.{IsFormed, Listing}
use Rattle.cue_types.specs.declared.cue.Cue.{Cue}
use Rattle.cue_lists.specs.declared.rules.RuleFault.{RuleFault}
use Rattle.cue_lists.specs.declared.rules.against.Against.{Against}
use Rattle.cue_lists.specs.Rules.{HasFault, IsRuled}
use Rattle.cue_lists.specs.Rules.Former.{former_number}
use Rattle.cue_lists.specs.Rules.Keeps.{IsKeptWithEach, IsKeptWithFormer, KeepRules, KeepsRule, NamesOther, rules}
use Rattle.cue_lists.specs.Rules.Sentences.{AreLanesRuled}
use Rattle.cue_lists.specs.Rules.Tests.{AreFaultless, fault_of, first_fault, other_of, verdicts}
use Rattle.cue_form.proofs.FirstFailing.{first_here, first_later, holds_at, one_first}
use Rattle.cue_form.specs.FirstFailing.{IsFirstFailing}
use Rattle.cue_lists.proofs.LanesSaid.{faultless_lanes, lanes_faultless}
use Rattle.cue_lists.proofs.ServiceRules.{HidesWindow, window_hides}
use Rattle.cue_lists.proofs.RulesJudged.{IsJudged, clash_told, delay_covers_told, off_slot_told, order_told, overlap_told, past_end_told, share_told, unhidden_told, window_busy_told}

-- no rule asks something both of the former cue and of each cue before
asked_once : (rule : Why) (list : Listing) (former other cue : Cue) → (IsKeptWithFormer rule list former cue → ⊥)
    → (IsKeptWithEach rule list other cue → ⊥) → ⊥
asked_once why.WindowBusy list former other cue with_former with_each = with_former tt
asked_once why.DelayCovers list former other cue with_former with_each = with_former tt
asked_once _ list former other cue with_former with_each = with_each tt

module _ (list : Listing) (earlier : List Cue) (cue : Cue) where
  -- a cue that breaks a rule doesn't keep it
  names_break : (rule : Why) (other : Option ℕ) → NamesOther list earlier cue rule other → KeepsRule list earlier cue rule → ⊥
  names_break rule None names keeps = names keeps.alone
  names_break rule (Some number) names keeps =
      elim names.1 [
        | inl former ↦ former.3 (keeps.former former.0 former.1)
        | inr nearest ↦
            nearest.1.fails
            (holds_at (λ (other : Cue). IsKeptWithEach rule list other cue) earlier nearest.1.before nearest.0 nearest.1.after
            nearest.1.split keeps.each)
      ]

  -- a broken rule names one cue
  names_one : (rule : Why) (a b : Option ℕ) → NamesOther list earlier cue rule a → NamesOther list earlier cue rule b → a ≡ b
  names_one rule None None first second = refl
  names_one rule None (Some m) first second = absurd (first second.0)
  names_one rule (Some n) None first second = absurd (second first.0)
  names_one rule (Some n) (Some m) first second =
      elim first.1 [
        | inl a ↦
            elim second.1 [
              | inl b ↦
                  let one = one_first _ earlier a.0 b.0 a.1 b.1 in
                  ap Some (a.2 ∙ ap (λ (l : List Cue). length l + 1) one.1 ∙ sym b.2)
              | inr b ↦ absurd (asked_once rule list a.0 b.0 cue a.3 b.1.fails)
            ]
        | inr a ↦
            elim second.1 [
              | inl b ↦ absurd (asked_once rule list b.0 a.0 cue b.3 a.1.fails)
              | inr b ↦
                  let one = one_first (λ (other : Cue). IsKeptWithEach rule list other cue) earlier a.0 b.0 a.1 b.1 in
                  ap Some (a.2 ∙ ap (λ (l : List Cue). length l + 1) one.1 ∙ sym b.2)
            ]
      ]

  -- each verdict tells of its rule
  abbrev AreJudged : List (Why × Option Against) → Type 0
  AreJudged [] = Unit {0}
  AreJudged ((rule, verdict) ∷ later) = IsJudged list earlier cue rule verdict × AreJudged later

  all_judged : AreJudged (verdicts list earlier cue)
  unfolding verdicts
  all_judged = (
    order_told list earlier cue,
    (
      overlap_told list earlier cue,
      (
        clash_told list earlier cue,
        (
          unhidden_told list earlier cue,
          (
            window_busy_told list earlier cue,
            (
              delay_covers_told list earlier cue,
              (share_told list earlier cue, (past_end_told list earlier cue, (off_slot_told list earlier cue, tt))),
            ),
          ),
        ),
      ),
    ),
  )

  -- the rules of verdicts
  abbrev rules_of : List (Why × Option Against) → List Why
  rules_of [] = []
  rules_of ((rule, verdict) ∷ later) = rule ∷ rules_of later

  rules_are : rules_of (verdicts list earlier cue) ≡ rules
  unfolding verdicts
  rules_are = refl

  -- what a fault of the cue is, of these rules
  abbrev IsFaultOf : List Why → RuleFault → Type 0
  IsFaultOf order fault =
      (fault.cue ≡ length earlier + 1)
      × IsFirstFailing (KeepsRule list earlier cue) order fault.why
      × NamesOther list earlier cue fault.why fault.other

  none_told : (judged : List (Why × Option Against)) → AreJudged judged
      → first_fault (length earlier + 1) (former_number cue earlier) judged ≡ None
      → AllByRecursion (KeepsRule list earlier cue) (rules_of judged)
  none_told [] all none = tt
  none_told ((rule, None) ∷ later) all none = (all.0, none_told later all.1 none)
  none_told ((rule, Some broken) ∷ later) all none = cc

  fault_told : (judged : List (Why × Option Against)) → AreJudged judged → (fault : RuleFault)
      → first_fault (length earlier + 1) (former_number cue earlier) judged ≡ Some fault → IsFaultOf (rules_of judged) fault
  fault_told [] all fault is = cc
  fault_told ((rule, None) ∷ later) all fault is =
      let rest = fault_told later all.1 fault is in
      (rest.0, first_later (KeepsRule list earlier cue) rule (rules_of later) fault.why all.0 rest.1, rest.2)
  fault_told ((rule, Some broken) ∷ later) all fault is =
      let here : RuleFault =
      record { why = rule; cue = length earlier + 1; other = other_of broken (former_number cue earlier) } in
      let same : here ≡ fault = cc in
      subst (IsFaultOf (rule ∷ rules_of later)) same
      (refl, first_here (KeepsRule list earlier cue) rule (rules_of later) (λ keeps. names_break rule _ all.0 keeps), all.0)

  -- a cue without a fault by the tests keeps the rules
  faultless_keeps : fault_of list earlier cue ≡ None → AllByRecursion (KeepsRule list earlier cue) rules
  faultless_keeps none =
      subst (AllByRecursion (KeepsRule list earlier cue)) rules_are (none_told (verdicts list earlier cue) all_judged none)

  -- and a fault by the tests is one
  tested_is_fault : (fault : RuleFault) → fault_of list earlier cue ≡ Some fault → IsFaultOf rules fault
  tested_is_fault fault is =
      subst (λ (order : List Why). IsFaultOf order fault) rules_are (fault_told (verdicts list earlier cue) all_judged fault is)

  -- a cue that keeps the rules has no fault by the tests
  pub keeps_faultless : AllByRecursion (KeepsRule list earlier cue) rules → fault_of list earlier cue ≡ None
  keeps_faultless keeps = by_fault (fault_of list earlier cue) refl
    where
      by_fault : (o : Option RuleFault) → fault_of list earlier cue ≡ o → o ≡ None
      by_fault None is = refl
      by_fault (Some fault) is =
          let told = tested_is_fault fault is in
          absurd (told.1.fails
          (holds_at (KeepsRule list earlier cue) rules told.1.before fault.why told.1.after told.1.split keeps))

  same_fault : (a b : RuleFault) → a.why ≡ b.why → a.cue ≡ b.cue → a.other ≡ b.other → a ≡ b
  same_fault a b why_is cue_is other_is =
      subst (λ (x : Why). a ≡ record { why = x; cue = b.cue; other = b.other }) why_is
      (subst (λ (n : ℕ). a ≡ record { why = a.why; cue = n; other = b.other }) cue_is
      (subst (λ (o : Option ℕ). a ≡ record { why = a.why; cue = a.cue; other = o }) other_is refl))

  -- a fault of the cue is the one that the tests find
  fault_is_tested : (fault : RuleFault) → IsFaultOf rules fault → fault_of list earlier cue ≡ Some fault
  fault_is_tested fault is = by_fault (fault_of list earlier cue) refl
    where
      by_fault : (o : Option RuleFault) → fault_of list earlier cue ≡ o → o ≡ Some fault
      by_fault None none =
          absurd (is.1.fails
          (holds_at (KeepsRule list earlier cue) rules is.1.before fault.why is.1.after is.1.split (faultless_keeps none)))
      by_fault (Some other) tested =
          let told = tested_is_fault other tested in
          let one = one_first (KeepsRule list earlier cue) rules other.why fault.why told.1 is.1 in
          let names = subst (λ (rule : Why). NamesOther list earlier cue rule other.other) one.0 told.2 in
          ap Some (same_fault other fault one.0 (told.0 ∙ sym is.0) (names_one fault.why other.other fault.other names is.2))

-- the cues keep the rules exactly where the tests find no fault
pub keep_faultless : (list : Listing) (cues : List Cue) → KeepRules list cues → AreFaultless list cues
keep_faultless list [] keep = tt
keep_faultless list (cue ∷ earlier) keep = (keeps_faultless list earlier cue keep.0, keep_faultless list earlier keep.1)

pub faultless_keep : (list : Listing) (cues : List Cue) → AreFaultless list cues → KeepRules list cues
faultless_keep list [] faultless = tt
faultless_keep list (cue ∷ earlier) faultless = (faultless_keeps list earlier cue faultless.0, faultless_keep list earlier faultless.1)

-- a list whose cues have no fault keeps the rules, and the other way round
pub faultless_ruled : (list : Listing) → AreFaultless list (reverse list.cues) → IsRuled list
faultless_ruled list faultless = record { kept = faultless_keep list (reverse list.cues) faultless }

pub ruled_faultless : (list : Listing) → IsRuled list → AreFaultless list (reverse list.cues)
ruled_faultless list ruled = keep_faultless list (reverse list.cues) ruled.kept

-- the cues of each lane of a list that keeps the rules keep them, and the other way round
pub lanes_ruled : (list : Listing) → IsRuled list → AreLanesRuled list
lanes_ruled list ruled = faultless_lanes list (ruled_faultless list ruled)

pub ruled_from_lanes : (list : Listing) → All HidesWindow list.cues → AreLanesRuled list → IsRuled list
ruled_from_lanes list hides lanes = faultless_ruled list (lanes_faultless list hides lanes)

pub ruled_by_lanes : (list : Listing) → IsFormed list → AreLanesRuled list → IsRuled list
ruled_by_lanes list formed lanes = ruled_from_lanes list hides lanes
  where
    hides : All HidesWindow list.cues
    hides k d within win = window_hides (get_or list.cues k d).kind (get_or list.cues k d) win (formed.cues k d within).kind

-- the fault that the tests find in a list
pub record IsFaulty (list : Listing) (fault : RuleFault) : Type 0 where
  pub earlier : List Cue
  pub cue : Cue
  pub later : List Cue
  pub split : list.cues ≡ reverse earlier ++ cue ∷ later
  pub kept : AreFaultless list earlier
  pub broken : fault_of list earlier cue ≡ Some fault

pub faulty_has : (list : Listing) (fault : RuleFault) → IsFaulty list fault → HasFault list fault
faulty_has list fault is =
    let told = tested_is_fault list is.earlier is.cue fault is.broken in
    record {
      earlier = is.earlier;
      cue = is.cue;
      later = is.later;
      split = is.split;
      kept = faultless_keep list is.earlier is.kept;
      number = told.0;
      rule = told.1;
      other = told.2;
    }

pub has_faulty : (list : Listing) (fault : RuleFault) → HasFault list fault → IsFaulty list fault
has_faulty list fault has = record {
  earlier = has.earlier;
  cue = has.cue;
  later = has.later;
  split = has.split;
  kept = keep_faultless list has.earlier has.kept;
  broken = fault_is_tested list has.earlier has.cue fault (has.number, has.rule, has.other);
}
