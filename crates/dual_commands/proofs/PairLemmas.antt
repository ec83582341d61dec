-- Two lists that keep the rules are refused with one status, and with none where they are placed together.
use Rattle.std.proofs.Common.{◌≡◌, ℕ, Some, ap, sym, subst, refl, ◌∙◌, ◌⊎◌, inl, inr, arith}
use Rattle.cc_base.specs.declared.why.Why.TheVariants as why
use Rattle.command_base.specs.declared.status.Place.TheVariants.{Field}
use Rattle.command_base.specs.declared.status.Status.{Status}
use Rattle.command_base.specs.declared.status.Status.TheVariants as status
use Rattle.cue_lists.specs.Listing.{Listing}
use Rattle.cue_lists.specs.declared.rules.RuleFault.{RuleFault}
use Rattle.dual_commands.specs.DualLists.{Clashes, IsRefusedPair}
use Rattle.dual_plans.specs.DualAnswer.{IsFirstWithout, IsFirstWithoutBeside}
use Rattle.dual_plans.specs.DualPlacement.{DualPlacement, IsDualPlaced}
use Rattle.dual_plans.specs.FieldPlaces.{GoTogether}
use Rattle.dual_plans.specs.Verdict.{Lacking, LackingBeside, Placed}
use Rattle.dual_plans.proofs.PairDecided.{judged_once}
use Rattle.dual_plans.proofs.OtherListLemmas.{alike_unjudged, other_once}
use Rattle.dual_plans.specs.OtherList.{IsJudged}
use Rattle.dual_plans.specs.declared.other_list.OtherField.{OtherField}
use Rattle.dual_plans.specs.Clashes.{IsFieldClash}

module _ (one two : Listing) where
  -- they clash at one pair of cues first
  pub clash_once : (a b : RuleFault) → Clashes one two a → Clashes one two b → a ≡ b
  clash_once a b p q =
      let low = p.least.least b.cue q.first q.least.clashes in
      let high = q.least.least a.cue p.first p.least.clashes in
      let cue : a.cue ≡ b.cue = omega arith in
      let first = p.least.least_first q.first (subst (λ c. IsFieldClash one two c q.first) (sym cue) q.least.clashes) in
      let second = q.least.least_first p.first (subst (λ c. IsFieldClash one two c p.first) cue p.least.clashes) in
      let other : p.first ≡ q.first = omega arith in
      p.fault_is ∙ ap (λ c. record { why = why.FieldClash; cue = c; other = Some p.first }) cue
      ∙ ap (λ o. record { why = why.FieldClash; cue = b.cue; other = Some o }) other ∙ sym q.fault_is

  -- why they are refused
  abbrev Cause : Status → Type 0
  Cause answer = ((at : OtherField) × IsJudged one two (Some at) × (answer ≡ status.Malformed (Field at.rec at.field) why.OtherList))
      ⊎ (((fault : RuleFault) × Clashes one two fault × (answer ≡ status.Rule fault))
      ⊎ (((cue : ℕ) × GoTogether one two × IsFirstWithout one two cue × (answer ≡ status.NoRoom cue))
      ⊎ ((cue : ℕ) × GoTogether one two × IsFirstWithoutBeside one two cue × (answer ≡ status.NoRoomBeside cue))))

  pub cause_of : (answer : Status) → IsRefusedPair one two answer → Cause answer
  cause_of (status.Malformed (Field rec field) why.OtherList) judged = inl (record { rec = rec; field = field }, judged, refl)
  cause_of (status.Rule fault) clashes = inr (inl (fault, clashes, refl))
  cause_of (status.NoRoom cue) lacks = inr (inr (inl (cue, lacks.0, lacks.1, refl)))
  cause_of (status.NoRoomBeside cue) lacks = inr (inr (inr (cue, lacks.0, lacks.1, refl)))
  cause_of _ refused = absurd refused

  -- placed lists have no cause
  causeless : (placed : DualPlacement) (answer : Status) → GoTogether one two → IsDualPlaced one two placed → Cause answer → ⊥
  causeless placed answer together is (inl judged) = alike_unjudged one two judged.0 together.alike judged.1
  causeless placed answer together is (inr (inl clash)) = together.apart clash.0.cue clash.1.first clash.1.least.clashes
  causeless placed answer together is (inr (inr (inl lacks))) = judged_once one two together (Placed placed) (Lacking lacks.0) is lacks.2
  causeless placed answer together is (inr (inr (inr lacks))) = judged_once one two together (Placed placed) (LackingBeside lacks.0) is lacks.2

  pub placed_unrefused : (placed : DualPlacement) (answer : Status) → GoTogether one two → IsDualPlaced one two placed → IsRefusedPair one two answer → ⊥
  placed_unrefused placed answer together is refused = causeless placed answer together is (cause_of answer refused)

  -- two causes are one
  same_cause : (a b : Status) → Cause a → Cause b → a ≡ b
  same_cause a b (inl p) (inl q) =
      p.2 ∙ ap (λ (at : OtherField). status.Malformed (Field at.rec at.field) why.OtherList) (other_once one two p.0 q.0 p.1 q.1) ∙ sym q.2
  same_cause a b (inl p) (inr (inl q)) = absurd (alike_unjudged one two p.0 q.1.alike p.1)
  same_cause a b (inl p) (inr (inr (inl q))) = absurd (alike_unjudged one two p.0 q.1.alike p.1)
  same_cause a b (inl p) (inr (inr (inr q))) = absurd (alike_unjudged one two p.0 q.1.alike p.1)
  same_cause a b (inr (inl p)) (inl q) = absurd (alike_unjudged one two q.0 p.1.alike q.1)
  same_cause a b (inr (inl p)) (inr (inl q)) = p.2 ∙ ap status.Rule (clash_once p.0 q.0 p.1 q.1) ∙ sym q.2
  same_cause a b (inr (inl p)) (inr (inr (inl q))) = absurd (q.1.apart p.0.cue p.1.first p.1.least.clashes)
  same_cause a b (inr (inl p)) (inr (inr (inr q))) = absurd (q.1.apart p.0.cue p.1.first p.1.least.clashes)
  same_cause a b (inr (inr (inl p))) (inl q) = absurd (alike_unjudged one two q.0 p.1.alike q.1)
  same_cause a b (inr (inr (inl p))) (inr (inl q)) = absurd (p.1.apart q.0.cue q.1.first q.1.least.clashes)
  same_cause a b (inr (inr (inl p))) (inr (inr (inl q))) = p.3 ∙ ap status.NoRoom (judged_once one two p.1 (Lacking p.0) (Lacking q.0) p.2 q.2) ∙ sym q.3
  same_cause a b (inr (inr (inl p))) (inr (inr (inr q))) = absurd (judged_once one two p.1 (Lacking p.0) (LackingBeside q.0) p.2 q.2)
  same_cause a b (inr (inr (inr p))) (inl q) = absurd (alike_unjudged one two q.0 p.1.alike q.1)
  same_cause a b (inr (inr (inr p))) (inr (inl q)) = absurd (p.1.apart q.0.cue q.1.first q.1.least.clashes)
  same_cause a b (inr (inr (inr p))) (inr (inr (inl q))) = absurd (judged_once one two p.1 (LackingBeside p.0) (Lacking q.0) p.2 q.2)
  same_cause a b (inr (inr (inr p))) (inr (inr (inr q))) = p.3 ∙ ap status.NoRoomBeside (judged_once one two p.1 (LackingBeside p.0) (LackingBeside q.0) p.2 q.2) ∙ sym q.3

  pub pair_refused_once : (a b : Status) → IsRefusedPair one two a → IsRefusedPair one two b → a ≡ b
  pair_refused_once a b first second = same_cause a b (cause_of a first) (cause_of b second)
