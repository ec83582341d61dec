-- Each second list has one first field that isn't as a first list asks, or none.
use Rattle.std.proofs.Common.{◌≡◌, ◌∙◌, Some, true, false, ap, sym, inl, inr}
use Rattle.std.specs.Prelude.{is_some}
use Rattle.cue_lists.specs.Listing.{Listing}
use Rattle.dual_plans.specs.OtherList.{AreAlike, IsJudged}
use Rattle.dual_plans.specs.declared.other_list.OtherField.{OtherField}

-- the place of a field of the second list
same_place : (a b : OtherField) → a.rec ≡ b.rec → a.field ≡ b.field → a ≡ b
same_place a b rec field = ap (λ r. record { rec = r; field = a.field }) rec ∙ ap (λ f. record { rec = b.rec; field = f }) field

module _ (one two : Listing) where
  -- lists that are alike have none
  pub alike_unjudged : (at : OtherField) → AreAlike one two → IsJudged one two (Some at) → ⊥
  alike_unjudged at alike (inl rate) = rate.2 alike.rate
  alike_unjudged at alike (inr (inl frames)) = frames.3 alike.frames
  alike_unjudged at alike (inr (inr (second, first, rates, lengths, (service, shared)))) =
      let none = ap (λ o. is_some o) (alike.unshared service) in
      let wrong : false ≡ true = sym none ∙ shared in absurd (cc)

  -- and others one
  pub other_once : (a b : OtherField) → IsJudged one two (Some a) → IsJudged one two (Some b) → a ≡ b
  other_once a b (inl p) (inl q) = same_place a b (p.0 ∙ sym q.0) (p.1 ∙ sym q.1)
  other_once a b (inl p) (inr (inl q)) = absurd (p.2 q.2)
  other_once a b (inl p) (inr (inr q)) = absurd (p.2 q.2)
  other_once a b (inr (inl p)) (inl q) = absurd (q.2 p.2)
  other_once a b (inr (inl p)) (inr (inl q)) = same_place a b (p.0 ∙ sym q.0) (p.1 ∙ sym q.1)
  other_once a b (inr (inl p)) (inr (inr q)) = absurd (p.3 q.3)
  other_once a b (inr (inr p)) (inl q) = absurd (q.2 p.2)
  other_once a b (inr (inr p)) (inr (inl q)) = absurd (q.3 p.3)
  other_once a b (inr (inr p)) (inr (inr q)) = same_place a b (p.0 ∙ sym q.0) (p.1 ∙ sym q.1)
