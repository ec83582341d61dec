-- Every list that keeps the rules is fitted, or a cue is its first that can't be shown.
use Rattle.std.proofs.Common.{◌≡◌, ◌∙◌, ℕ, zero, suc, ◌+◌, ◌<◌, ◌≤◌, ◌^◌, ◌⊎◌, inl, inr, List, [], ◌∷◌, ◌++◌, length, get_or, refl, sym, ap, subst, append_assoc, arith}
use Rattle.std.specs.List.{AllByRecursion}
use Rattle.std.proofs.lemmas.Bool.{cases_eq}
use Rattle.std.proofs.lemmas.List.{get_or_default, length-append}
use Rattle.std.proofs.lemmas.List.Elements.{recursion_from_All}
use Rattle.cue_lists.proofs.RuleLists.{ruled_has_none}
use Rattle.cue_lists.proofs.RulesDecided.{ruled_or_broken}
use Rattle.cue_lists.specs.Cues.{IsCueFormed}
use Rattle.cue_lists.specs.Listing.{IsFormed, Listing, most_cues, most_frames}
use Rattle.cue_lists.specs.Rules.{IsRuled}
use Rattle.cue_lists.specs.declared.cue.Cue.{Cue}
use Rattle.frame_scheduler.proofs.RoomDecided.{list_decided}
use Rattle.cue_fit.specs.Fitted.{AreFitted, HasPlan, IsFitted, IsShow, LacksShow, MayShow, list_of, most_late}
use Rattle.cue_fit.specs.Shown.{with_shown}
use Rattle.cue_fit.proofs.FittedLemmas.{fitted_more, length_shown}
use Rattle.cue_fit.proofs.FormedLemmas.{list_of_formed, with_shown_formed}
use Rattle.cue_fit.proofs.PlanLemmas.{cue_early, crowded_has_none}

-- a list has a plan, or has none
plan_decided : (l : Listing) → IsFormed l → HasPlan l ⊎ (HasPlan l → ⊥)
plan_decided l formed =
    elim (ruled_or_broken l) [
      | inl ruled ↦ elim (list_decided l formed ruled) [
        | inl there ↦ inl (record { ruled = ruled; placed = there.0; placement = there.1 })
        | inr without ↦ inr (crowded_has_none l without.0 without.1)
      ]
      | inr broken ↦ inr (λ plan. ruled_has_none l broken.0 formed plan.ruled broken.1)
    ]

-- a cue in its ranges that is shown early enough to be shown later
pub record IsEarly (cue : Cue) : Type 0 where
  pub formed : IsCueFormed cue
  pub early : cue.show ≤ most_frames

module _ (late : ℕ) (list : Listing) (most : late ≤ most_late) (formed : IsFormed list) where
  may_decided : (earlier : List Cue) (cue : Cue) (frame : ℕ) → AllByRecursion IsCueFormed earlier → length earlier < most_cues → IsCueFormed cue → frame < 2 ^ 32
      → MayShow list earlier cue frame ⊎ (MayShow list earlier cue frame → ⊥)
  may_decided earlier cue frame all few cue_formed small =
      plan_decided (list_of list (with_shown frame cue earlier))
      (list_of_formed list (with_shown frame cue earlier) formed (with_shown_formed frame cue earlier small cue_formed all)
      (let count = length_shown frame cue earlier in omega (arith, count)))

  -- of the first frames, one is the first in which the cue may be shown, or in none it may
  tried : (earlier : List Cue) (cue : Cue) → AllByRecursion IsCueFormed earlier → length earlier < most_cues → IsEarly cue → (k : ℕ) → k ≤ late + 1
      → ((frame : ℕ) × IsShow late list earlier cue frame) ⊎ ((frame : ℕ) → cue.show ≤ frame → frame < cue.show + k → MayShow list earlier cue frame → ⊥)
  tried earlier cue all few early zero within = inr (λ frame from less. absurd (omega arith))
  tried earlier cue all few early (suc k) within =
      elim (tried earlier cue all few early k (omega arith)) [
        | inl found ↦ inl found
        | inr none ↦ elim (may_decided earlier cue (cue.show + k) all few early.formed (let low = early.early in omega (arith, low))) [
          | inl may ↦ inl (cue.show + k, record { from = omega arith; within = omega arith; may = may; first = λ other from less. none other from less })
          | inr not ↦ inr (λ frame from less may. elim (cases_eq frame (cue.show + k)) [
            | inl same ↦ not (subst (λ (f : ℕ). MayShow list earlier cue f) same may)
            | inr other ↦ none frame from (omega arith) may
          ])
        ]
      ]

  -- all cues are fitted, or one is the first that can't be
  cues_decided : (before after fitted : List Cue) → list.cues ≡ before ++ after → AreFitted late list [] before fitted → AllByRecursion IsCueFormed fitted
      → length fitted ≡ length before → length before + length after ≤ most_cues → AllByRecursion IsEarly after
      → ((all : List Cue) × AreFitted late list fitted after all) ⊎ ((number : ℕ) × LacksShow late list number)
  cues_decided before [] fitted split are all count few early = inl (fitted, refl)
  cues_decided before (cue ∷ after) fitted split are all count few early =
      elim (tried fitted cue all (omega arith) early.0 (late + 1) (omega arith)) [
        | inl found ↦ elim (cues_decided (before ++ cue ∷ []) after (with_shown found.0 cue fitted)
            (split ∙ sym (append_assoc before (cue ∷ []) after))
            (fitted_more late list [] before cue fitted found.0 are found.1)
            (with_shown_formed found.0 cue fitted (let low = early.0.early in let within = found.1.within in omega (arith, low, within)) early.0.formed all)
            (length_shown found.0 cue fitted ∙ ap suc count ∙ sym (longer before cue))
            (let long = longer before cue in omega (arith, long))
            early.1) [
              | inl rest ↦ inl (rest.0, (found.0, found.1, rest.1))
              | inr lack ↦ inr lack
            ]
        | inr none ↦ inr (
          length before + 1,
          record {
            before = before;
            cue = cue;
            after = after;
            split = split;
            number_is = refl;
            fitted = fitted;
            are = are;
            none = λ frame from within. none frame from (omega arith);
          },
        )
      ]
    where
      longer : (xs : List Cue) (x : Cue) → length (xs ++ x ∷ []) ≡ suc (length xs)
      longer xs x = let both = length-append xs (x ∷ []) in omega (arith, both)

  -- each cue of a list that keeps the rules is early
  all_early : IsRuled list → AllByRecursion IsEarly list.cues
  all_early ruled = recursion_from_All IsEarly list.cues (λ i d within. record {
    formed = formed.cues i d within;
    early =
        let low : (get_or list.cues i d).show < list.frames = cue_early list list.cues i (get_or list.cues i d) formed ruled refl within (default i d within) in
        let end = formed.frames in
        omega (arith, low, end);
  })
    where
      default : (i : ℕ) (d : Cue) → i < length list.cues → get_or list.cues i d ≡ get_or list.cues i (get_or list.cues i d)
      default i d within = get_or_default list.cues i d (get_or list.cues i d) within

  pub list_fitted : IsRuled list → ((fitted : Listing) × IsFitted late list fitted) ⊎ ((number : ℕ) × LacksShow late list number)
  list_fitted ruled =
      elim (cues_decided [] list.cues [] refl refl tt refl (let few = formed.few in omega arith) (all_early ruled)) [
        | inl all ↦ inl (list_of list all.0, record { cues = all.0; are = all.1; is = refl })
        | inr lack ↦ inr lack
      ]

  -- a fitted list is in its form
  fitted_cues_formed : (earlier cues fitted : List Cue) → AreFitted late list earlier cues fitted → AllByRecursion IsEarly cues → AllByRecursion IsCueFormed earlier
      → length earlier + length cues ≤ most_cues → AllByRecursion IsCueFormed fitted × (length fitted ≤ most_cues)
  fitted_cues_formed earlier [] fitted are early all few =
      (subst (λ (l : List Cue). AllByRecursion IsCueFormed l) (sym are) all, let same = ap length are in omega (arith, same))
  fitted_cues_formed earlier (cue ∷ cues) fitted are early all few =
      let count = length_shown are.0 cue earlier in
      fitted_cues_formed (with_shown are.0 cue earlier) cues fitted are.2 early.1
      (with_shown_formed are.0 cue earlier (let low = early.0.early in let within = are.1.within in omega (arith, low, within)) early.0.formed all)
      (omega (arith, count))

  pub fitted_formed : IsRuled list → (fitted : Listing) → IsFitted late list fitted → IsFormed fitted
  fitted_formed ruled fitted is =
      let facts = fitted_cues_formed [] list.cues is.cues is.are (all_early ruled) tt (let few = formed.few in omega arith) in
      subst IsFormed (sym is.is) (list_of_formed list is.cues formed facts.0 facts.1)
