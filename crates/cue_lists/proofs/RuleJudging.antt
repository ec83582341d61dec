-- A cue's judgement: the verdicts of the rules, and the fault of the first one that is broken.
use Rattle.std.proofs.Common.{◌≡◌, ℕ, ◌+◌, ◌-◌, ◌<◌, ◌≤◌, Bool, true, false, if◌then◌else◌, List, [], ◌∷◌, ◌++◌, length, reverse, Option, Some, None, Result, zero, suc, refl, sym, subst, ◌∙◌, arith}
use Rattle.std.specs.Prelude.{slice_get}
use Rattle.std.specs.Option.{option_and_then}
use Rattle.std.specs.List.{find}
use Rattle.std.proofs.lemmas.List.{reverse-append, length-reverse, reverse-reverse}
use Rattle.cc_base.specs.declared.why.Why.TheVariants as why
use Rattle.cue_types.specs.Listing.{Listing}
use Rattle.cc_base.specs.declared.rate.Rate.{Rate}
use Rattle.cue_lists.specs.Rules.Tests.{verdicts, first_fault, fault_of, other_of, AnswersFault}
use Rattle.cue_lists.specs.Rules.Alternatives.{first_broken}
use Rattle.cue_lists.specs.Rules.Clash.{clash}
use Rattle.cue_lists.specs.Rules.DelayCovers.{delay_covers}
use Rattle.cue_lists.specs.Rules.Former.{nearest_number, former_cue, former_number}
use Rattle.cue_types.specs.Lane.{kind_lane, on_lane}
use Rattle.cue_lists.specs.Rules.Order.{order}
use Rattle.cue_lists.specs.Rules.Overlap.{overlap}
use Rattle.cue_lists.specs.Rules.OffSlot.{off_slot}
use Rattle.cue_lists.specs.Rules.PastEnd.{past_end}
use Rattle.cue_lists.specs.Rules.Share.{share}
use Rattle.cue_lists.specs.Rules.Unhidden.{unhidden}
use Rattle.cue_lists.specs.Rules.WindowBusy.{window_busy}
use Rattle.cue_types.specs.declared.cue.Cue.{Cue}
use Rattle.line21_slots.specs.Cadences.{slot_step}
use Rattle.cue_lists.specs.declared.rules.RuleFault.{RuleFault}
use Rattle.cue_lists.specs.declared.rules.against.Against.{Against}

-- the verdicts, by each rule's own
pub verdicts_are : (list : Listing) (earlier : List Cue) (cue : Cue) (former : Option Cue)
    (o v c u b d s p t : Option Against) → former ≡ former_cue cue earlier
    → o ≡ first_broken (order list.rate cue former) → v ≡ first_broken (overlap cue former)
    → c ≡ first_broken (clash (slot_step list.rate) cue former) → u ≡ first_broken (unhidden cue former)
    → b ≡ first_broken (window_busy cue earlier) → d ≡ first_broken (delay_covers list.rate cue earlier)
    → s ≡ first_broken (share list cue) → p ≡ first_broken (past_end (slot_step list.rate) list.frames cue)
    → t ≡ first_broken (off_slot list.rate cue)
    → (why.Order, o) ∷ (why.Overlap, v) ∷ (why.Clash, c) ∷ (why.Unhidden, u) ∷ (why.WindowBusy, b)
    ∷ (why.DelayCovers, d) ∷ (why.Share, s) ∷ (why.PastEnd, p) ∷ (why.OffSlot, t) ∷ [] ≡ verdicts list earlier cue
unfolding verdicts
verdicts_are list earlier cue former o v c u b d s p t f eo ev ec eu eb ed es ep et =
    rw (eo, ev, ec, eu, eb, ed, es, ep, et, f) refl

-- an element of the first of two joined lists
slice_get-append : (xs ys : List Cue) (i : ℕ) → i < length xs → slice_get (xs ++ ys) i ≡ slice_get xs i
slice_get-append [] ys i within = absurd (omega arith)
slice_get-append (x ∷ xs) ys zero within = refl
slice_get-append (x ∷ xs) ys (suc i) within = slice_get-append xs ys i (omega arith)

-- the element after a list
slice_get_last : (xs : List Cue) (y : Cue) → slice_get (xs ++ y ∷ []) (length xs) ≡ Some y
slice_get_last [] y = refl
slice_get_last (x ∷ xs) y = slice_get_last xs y

-- the list with its newest cue at its end
reverse-cons : (cue : Cue) (earlier : List Cue) → reverse (cue ∷ earlier) ≡ reverse earlier ++ cue ∷ []
reverse-cons cue earlier = reverse-append (cue ∷ []) earlier

-- numbers begin with 1, and end with how many cues there are
pub record IsNumber (earlier : List Cue) (n : ℕ) : Type 0 where
  pub from_one : 1 ≤ n
  pub within : n ≤ length earlier

pub nearest_is_number : (test : Cue → Bool) (earlier : List Cue) (n : ℕ) → nearest_number test earlier ≡ Some n
    → IsNumber earlier n
nearest_is_number test [] n e = cc
nearest_is_number test (cue ∷ earlier) n e = by_test (test cue) (nearest_is_number test earlier n) e
  where
    by_test : (b : Bool) → (nearest_number test earlier ≡ Some n → IsNumber earlier n)
        → (if b then Some (length earlier + 1) else nearest_number test earlier) ≡ Some n
        → IsNumber (cue ∷ earlier) n
    by_test true older e =
        let here : length earlier + 1 ≡ n = cc in
        record { from_one = omega (arith, here); within = omega (arith, here) }
    by_test false older e =
        let there : IsNumber earlier n = older e in
        record { from_one = there.from_one; within = omega (arith, there.within) }

-- the nearest cue is the one with the nearest number
pub nearest_at : (test : Cue → Bool) (earlier : List Cue)
    → find test earlier ≡ option_and_then (λ n. slice_get (reverse earlier) (n - 1)) (nearest_number test earlier)
nearest_at test [] = refl
nearest_at test (cue ∷ earlier) = by_test (test cue) (nearest_at test earlier) (nearest_is_number test earlier)
  where
    kept : (o : Option ℕ) → ((n : ℕ) → o ≡ Some n → IsNumber earlier n)
        → option_and_then (λ n. slice_get (reverse earlier) (n - 1)) o
        ≡ option_and_then (λ n. slice_get (reverse (cue ∷ earlier)) (n - 1)) o
    kept None numbers = refl
    kept (Some n) numbers =
        let number : IsNumber earlier n = numbers n refl in
        let front : n - 1 < length (reverse earlier) = rw length-reverse (omega (arith, number.from_one, number.within)) in
        sym (rw (reverse-cons cue earlier) (slice_get-append (reverse earlier) (cue ∷ []) (n - 1) front))

    newest : Some cue ≡ slice_get (reverse (cue ∷ earlier)) (length earlier + 1 - 1)
    newest =
        let place : length earlier + 1 - 1 ≡ length (reverse earlier) = rw length-reverse (omega arith) in
        sym (rw (reverse-cons cue earlier, place) (slice_get_last (reverse earlier) cue))

    by_test : (b : Bool)
        → find test earlier ≡ option_and_then (λ n. slice_get (reverse earlier) (n - 1)) (nearest_number test earlier)
        → ((n : ℕ) → nearest_number test earlier ≡ Some n → IsNumber earlier n)
        → (if b then Some cue else find test earlier)
        ≡ option_and_then (λ n. slice_get (reverse (cue ∷ earlier)) (n - 1))
        (if b then Some (length earlier + 1) else nearest_number test earlier)
    by_test true older numbers = newest
    by_test false older numbers = older ∙ kept (nearest_number test earlier) numbers

-- the former cue is the cue of the former number
former_is : (earlier : List Cue) (cue : Cue) (number : Option ℕ) (former : Option Cue)
    → number ≡ former_number cue (reverse earlier) → former ≡ option_and_then (λ n. slice_get earlier (n - 1)) number
    → former ≡ former_cue cue (reverse earlier)
former_is earlier cue number former en ef =
    ef ∙ rw en (sym (nearest_at (on_lane (kind_lane cue.kind)) (reverse earlier)
    ∙ rw reverse-reverse refl))

-- a cue that breaks the rule Order has its fault
pub order_judged : (list : Listing) (earlier : List Cue) (cue : Cue) (number : Option ℕ) (former : Option Cue) (broken : Against) (fault : RuleFault)
    → number ≡ former_number cue (reverse earlier)
    → former ≡ option_and_then (λ n. slice_get earlier (n - 1)) number
    → Some broken ≡ first_broken (order list.rate cue former)
    → fault ≡ record { why = why.Order; cue = length earlier + 1; other = other_of broken number }
    → fault_of list (reverse earlier) cue ≡ Some fault
unfolding verdicts
order_judged list earlier cue number former broken fault en ef eo is =
    rw (length-reverse, ← en, ← former_is earlier cue number former en ef, ← eo, is) refl

-- a cue that keeps it and breaks no rule, or a rule after it: the answer of the verdicts is the cue's
pub judged : (list : Listing) (earlier : List Cue) (cue : Cue) (number : Option ℕ) (former : Option Cue)
    (v c u b d s p t : Option Against) (r : Result (Unit {0}) RuleFault)
    → number ≡ former_number cue (reverse earlier)
    → former ≡ option_and_then (λ n. slice_get earlier (n - 1)) number
    → None ≡ first_broken (order list.rate cue former) → v ≡ first_broken (overlap cue former)
    → c ≡ first_broken (clash (slot_step list.rate) cue former) → u ≡ first_broken (unhidden cue former)
    → b ≡ first_broken (window_busy cue (reverse earlier)) → d ≡ first_broken (delay_covers list.rate cue (reverse earlier))
    → s ≡ first_broken (share list cue) → p ≡ first_broken (past_end (slot_step list.rate) list.frames cue)
    → t ≡ first_broken (off_slot list.rate cue)
    → AnswersFault r (first_fault (length earlier + 1) number
    ((why.Overlap, v) ∷ (why.Clash, c) ∷ (why.Unhidden, u) ∷ (why.WindowBusy, b)
    ∷ (why.DelayCovers, d) ∷ (why.Share, s) ∷ (why.PastEnd, p) ∷ (why.OffSlot, t) ∷ []))
    → AnswersFault r (fault_of list (reverse earlier) cue)
judged list earlier cue number former v c u b d s p t r en ef eo ev ec eu eb ed es ep et judges =
    rw (
      length-reverse,
      ← verdicts_are list (reverse earlier) cue former None v c u b d s p t (former_is earlier cue number former en ef) eo ev ec eu eb ed es ep et,
      ← en,
    ) judges

-- the order of a cue without a broken alternative, by its former cue
pub order_none : (rate : Rate) (earlier : List Cue) (cue : Cue) (number : Option ℕ) (former : Option Cue)
    → number ≡ former_number cue (reverse earlier)
    → former ≡ option_and_then (λ n. slice_get earlier (n - 1)) number
    → None ≡ first_broken (order rate cue former)
    → first_broken (order rate cue (former_cue cue (reverse earlier))) ≡ None
order_none rate earlier cue number former en ef eo =
    subst (λ (f : Option Cue). first_broken (order rate cue f) ≡ None) (former_is earlier cue number former en ef) (sym eo)
