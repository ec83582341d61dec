-- The verdict of `fit` beside a list: one list, or one status.
use Rattle.std.proofs.Common.{◌≡◌, ◌∙◌, ◌≤◌, ◌⊎◌, ℕ, List, Some, inl, inr, refl, sym, ap, subst}
use Rattle.cc_base.specs.declared.why.Why.TheVariants as why
use Rattle.command_base.proofs.JudgedLemmas.{beside_made, judged_made}
use Rattle.command_base.proofs.OneLemmas.{beside_one, made_one}
use Rattle.command_base.proofs.WholeInputLemmas.{AreRefusals}
use Rattle.command_base.specs.Exact.{HasVerdict, IsOne}
use Rattle.command_base.specs.MadeVerdict.{MadeVerdict}
use Rattle.command_base.specs.WholeInput.{IsRefusal}
use Rattle.command_base.specs.declared.status.Place.TheVariants.{Field}
use Rattle.command_base.specs.declared.status.Status.{Status}
use Rattle.command_base.specs.declared.status.Status.TheVariants as status
use Rattle.cue_list_commands.proofs.EveryLemmas.{good_or_refused}
use Rattle.cue_list_commands.proofs.ListVerdictLemmas.{good_not_refused, good_once, list_refused_once}
use Rattle.cue_list_commands.proofs.Refusals.{list_refusals}
use Rattle.cue_list_commands.specs.Accepted.{IsGoodList, IsRefusedList}
use Rattle.cue_list_commands.specs.ListVerdict.{IsReadAgain}
use Rattle.cue_lists.proofs.PrintedFacts.{records_of-bytes}
use Rattle.cue_lists.specs.Listing.{IsFormed, Listing}
use Rattle.cue_lists.specs.Rules.{IsRuled}
use Rattle.cue_lists.specs.Printing.{in_order, list_bytes}
use Rattle.cue_lists.specs.declared.head.Version.TheVariants as version
use Rattle.cue_fit.specs.Fitted.{most_late}
use Rattle.dual_commands.proofs.JudgedLemmas.{alike_decided, pair_judged}
use Rattle.dual_commands.proofs.PairLemmas.{placed_unrefused}
use Rattle.dual_fit.proofs.DecidedLemmas.{alone_decided, moved_decided}
use Rattle.dual_fit.proofs.MisfitLemmas.{alone_once, alone_or_not, alone_unjudged, fitted_not_alone, fitted_not_lacking, fitted_unjudged, times_unjudged}
use Rattle.dual_fit.proofs.OneLemmas.{one_fit, one_lack}
use Rattle.dual_fit.specs.FittedBeside.{IsFittedBeside, LacksAlone, LacksTimes, StandTogether}
use Rattle.dual_plans.proofs.OtherListLemmas.{other_once}
use Rattle.dual_plans.specs.OtherList.{AreAlike, IsJudged}
use Rattle.dual_plans.specs.declared.other_list.OtherField.{OtherField}
use Rattle.fit_commands.specs.FitBesideVerdict.{FitBesideVerdict, IsFittedAsBeside, IsMisfitBeside, IsRefusedFitBeside}

-- why a list that keeps the rules isn't fitted
abbrev Cause : Listing → Listing → ℕ → Status → Type 0
Cause first list late answer =
    ((at : OtherField) × IsJudged first list (Some at) × (answer ≡ status.Malformed (Field at.rec at.field) why.OtherList))
    ⊎ (((cue : ℕ) × LacksAlone first list cue × (answer ≡ status.NoRoomBeside cue))
    ⊎ ((cue : ℕ) × LacksTimes late first list cue × (answer ≡ status.NoRoom cue)))

module _ (late : ℕ) (first list : Listing) (formed : IsFormed list) where
  cause_of : (answer : Status) → IsMisfitBeside late first list answer → Cause first list late answer
  cause_of (status.Malformed (Field rec field) why.OtherList) is = inl (record { rec = rec; field = field }, is, refl)
  cause_of (status.NoRoomBeside cue) is = inr (inl (cue, is, refl))
  cause_of (status.NoRoom cue) is = inr (inr (cue, is, refl))
  cause_of _ is = absurd is

  same_cause : (a b : Status) → Cause first list late a → Cause first list late b → a ≡ b
  same_cause a b (inl p) (inl q) =
      p.2 ∙ ap (λ (at : OtherField). status.Malformed (Field at.rec at.field) why.OtherList) (other_once first list p.0 q.0 p.1 q.1) ∙ sym q.2
  same_cause a b (inl p) (inr (inl q)) = absurd (alone_unjudged late first list formed p.0 q.0 q.1 p.1)
  same_cause a b (inl p) (inr (inr q)) = absurd (times_unjudged late first list formed p.0 q.0 q.1 p.1)
  same_cause a b (inr (inl p)) (inl q) = absurd (alone_unjudged late first list formed q.0 p.0 p.1 q.1)
  same_cause a b (inr (inl p)) (inr (inl q)) = p.2 ∙ ap status.NoRoomBeside (alone_once late first list formed p.0 q.0 p.1 q.1) ∙ sym q.2
  same_cause a b (inr (inl p)) (inr (inr q)) = absurd (alone_or_not late first list formed p.0 p.1 q.1.alone)
  same_cause a b (inr (inr p)) (inl q) = absurd (times_unjudged late first list formed q.0 p.0 p.1 q.1)
  same_cause a b (inr (inr p)) (inr (inl q)) = absurd (alone_or_not late first list formed q.0 q.1 p.1.alone)
  same_cause a b (inr (inr p)) (inr (inr q)) = p.2 ∙ ap status.NoRoom (one_lack late first list p.0 q.0 p.1 q.1) ∙ sym q.2

  no_cause : (fitted : Listing) (answer : Status) → IsFittedBeside late first list fitted → Cause first list late answer → ⊥
  no_cause fitted answer is (inl p) = fitted_unjudged late first list formed p.0 fitted is p.1
  no_cause fitted answer is (inr (inl p)) = fitted_not_alone late first list formed p.0 fitted is p.1
  no_cause fitted answer is (inr (inr p)) = fitted_not_lacking late first list formed p.0 fitted is p.1

module _ (late : ℕ) (first : Listing) where
  pub beside_once : (bytes : List ℕ) (one other : Listing) → IsFittedAsBeside late first bytes one → IsFittedAsBeside late first bytes other → one ≡ other
  beside_once bytes one other p q =
      let same = good_once bytes q.list p.list q.good p.good in
      one_fit late first p.list one other p.holds (subst (λ (l : Listing). IsFittedBeside late first l other) same q.holds)

  pub beside_not_refused : (bytes : List ℕ) (fitted : Listing) (answer : Status) → IsFittedAsBeside late first bytes fitted → IsRefusedFitBeside late first bytes answer → ⊥
  beside_not_refused bytes fitted answer is (inl refused) = good_not_refused bytes is.list answer is.good refused
  beside_not_refused bytes fitted answer is (inr misfit) =
      let same = good_once bytes misfit.list is.list misfit.good is.good in
      no_cause late first is.list is.good.spelled.formed fitted answer is.holds
      (cause_of late first is.list is.good.spelled.formed answer (subst (λ (l : Listing). IsMisfitBeside late first l answer) same misfit.holds))

  pub beside_refused_once : (bytes : List ℕ) (one other : Status) → IsRefusedFitBeside late first bytes one → IsRefusedFitBeside late first bytes other → one ≡ other
  beside_refused_once bytes one other (inl p) (inl q) = list_refused_once bytes one other p q
  beside_refused_once bytes one other (inl p) (inr q) = absurd (good_not_refused bytes q.list one q.good p)
  beside_refused_once bytes one other (inr p) (inl q) = absurd (good_not_refused bytes p.list other p.good q)
  beside_refused_once bytes one other (inr p) (inr q) =
      let same = good_once bytes q.list p.list q.good p.good in
      let formed = p.good.spelled.formed in
      same_cause late first p.list formed one other (cause_of late first p.list formed one p.holds)
      (cause_of late first p.list formed other (subst (λ (l : Listing). IsMisfitBeside late first l other) same q.holds))

-- so `fit` makes one status beside a list
abbrev pub OfFirst : ℕ → Listing → List ℕ → Status → List ℕ → Type 0
OfFirst late first = MadeVerdict (IsFittedAsBeside late first) list_bytes IsReadAgain (IsRefusedFitBeside late first)

pub fit_beside_one : (late : ℕ) → IsOne (FitBesideVerdict late)
fit_beside_one late =
    beside_one IsGoodList IsRefusedList (OfFirst late) good_not_refused list_refused_once
    (λ aside input first other answer text good fine made. subst (λ (l : Listing). OfFirst late l input answer text) (good_once aside other first fine good) made)
    (λ first. made_one (IsFittedAsBeside late first) list_bytes IsReadAgain (IsRefusedFitBeside late first) (beside_not_refused late first) (beside_refused_once late first))

-- every list is fitted beside one that keeps the rules, or refused
module _ (late : ℕ) (most : late ≤ most_late) (first : Listing) (first_formed : IsFormed first) (first_ruled : IsRuled first) where
  abbrev Judged : List ℕ → Type 0
  Judged bytes = ((fitted : Listing) × IsFittedAsBeside late first bytes fitted) ⊎ ((answer : Status) × IsRefusedFitBeside late first bytes answer)

  module _ (bytes : List ℕ) (list : Listing) (good : IsGoodList bytes list) where
    fitted_so : (fitted : Listing) → IsFittedBeside late first list fitted → Judged bytes
    fitted_so fitted is = inl (fitted, record { list = list; good = good; holds = is })

    refused_so : (answer : Status) → IsMisfitBeside late first list answer → Judged bytes
    refused_so answer is = inr (answer, inr (record { list = list; good = good; holds = is }))

    moved : AreAlike first list → (StandTogether first list → ⊥) → Judged bytes
    moved alike apart =
        elim (alone_decided first list first_formed first_ruled good.spelled.formed alike apart) [
          | inr lack ↦ refused_so (status.NoRoomBeside lack.0) lack.1
          | inl alone ↦ elim (moved_decided late first list first_formed first_ruled good.spelled.formed good.ruled alike most apart alone) [
            | inl there ↦ fitted_so there.0 there.1
            | inr lack ↦ refused_so (status.NoRoom lack.0) lack.1
          ]
        ]

    good_judged : Judged bytes
    good_judged =
        elim (alike_decided first list) [
          | inr at ↦ refused_so (status.Malformed (Field at.0.rec at.0.field) why.OtherList) at.1
          | inl alike ↦ elim (pair_judged first list first_formed first_ruled good.spelled.formed good.ruled) [
            | inl (placed, together, is) ↦ fitted_so (in_order list) (inl (record { together = together; placed = placed; placement = is }, refl))
            | inr (answer, refused) ↦ moved alike (λ stand. placed_unrefused first list stand.placed answer stand.together stand.placement refused)
          ]
        ]

  beside_judged : (bytes : List ℕ) → Judged bytes
  beside_judged bytes =
      elim (good_or_refused bytes) [
        | inr refused ↦ inr (refused.0, inl refused.1)
        | inl good ↦ good_judged bytes good.0 good.1
      ]

-- what is refused is refused with a status of refusals
misfit_refusals : (late : ℕ) (first list : Listing) (answer : Status) → IsMisfitBeside late first list answer → IsRefusal answer
misfit_refusals late first list status.Ok refused = refused
misfit_refusals late first list status.Usage refused = refused
misfit_refusals late first list status.ReadFault refused = refused
misfit_refusals late first list status.WriteFault refused = refused
misfit_refusals late first list _ refused = tt

beside_refusals : (late : ℕ) (first : Listing) → AreRefusals (IsRefusedFitBeside late first)
beside_refusals late first bytes answer (inl refused) = list_refusals bytes answer refused
beside_refusals late first bytes answer (inr misfit) = misfit_refusals late first misfit.list answer misfit.holds

beside_makes : (late : ℕ) → late ≤ most_late → (aside : List ℕ) (first : Listing) → IsGoodList aside first → HasVerdict (λ side. OfFirst late first)
beside_makes late most aside first is side input bytes =
    judged_made (IsFittedAsBeside late first) list_bytes IsReadAgain (IsRefusedFitBeside late first) (beside_refusals late first)
    (λ bytes fitted made. records_of-bytes version.Two (in_order fitted)) input
    (beside_judged late most first is.spelled.formed is.ruled input)

pub every_fit_beside : (late : ℕ) → late ≤ most_late → HasVerdict (FitBesideVerdict late)
every_fit_beside late most = beside_made IsGoodList IsRefusedList (OfFirst late) list_refusals (beside_makes late most) good_or_refused
