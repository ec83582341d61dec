-- Every second list that is as a first one asks is fitted beside it, or it is told why not.
use Rattle.std.proofs.Common.{◌≡◌, ◌∙◌, ℕ, zero, suc, ◌+◌, ◌<◌, ◌≤◌, ◌^◌, ◌⊎◌, inl, inr, Bool, List, [], ◌∷◌, ◌++◌, length, get_or, reverse, Option, Some, None, refl, sym, ap, subst, arith}
use Rattle.std.specs.List.{AllByRecursion}
use Rattle.std.proofs.lemmas.Bool.{cases_eq, cases_lt}
use Rattle.std.proofs.lemmas.List.{append_assoc, get_or_default, length-append, reverse-append}
use Rattle.std.proofs.lemmas.List.Elements.{recursion_from_All}
use Rattle.cue_lists.proofs.RuleLists.{ruled_has_none}
use Rattle.cue_lists.proofs.RulesDecided.{ruled_or_broken}
use Rattle.cue_lists.specs.Rules.{HasFault, IsRuled}
use Rattle.cue_lists.specs.declared.rules.RuleFault.{RuleFault}
use Rattle.cue_lists.specs.Cues.{IsCueFormed}
use Rattle.cue_lists.specs.Listing.{IsFormed, Listing, most_cues, most_frames}
use Rattle.cue_lists.specs.Rules.{IsRuled}
use Rattle.cue_lists.specs.declared.cue.Cue.{Cue}
use Rattle.cue_fit.specs.Fitted.{list_of, most_late}
use Rattle.cue_fit.proofs.FormedLemmas.{list_of_formed}
use Rattle.dual_plans.proofs.MeetingLemmas.{Decided, least_always}
use Rattle.dual_plans.proofs.PairDecided.{each_judged, judged_once}
use Rattle.dual_plans.specs.Clashes.{IsFieldClash, IsLeast}
use Rattle.dual_plans.specs.FieldPlaces.{GoTogether}
use Rattle.dual_plans.specs.OtherList.{AreAlike}
use Rattle.dual_plans.specs.Verdict.{IsVerdict, Lacking, LackingBeside, Placed, Verdict}
use Rattle.dual_plans.specs.declared.clash.Clash.{Clash}
use Rattle.dual_fit.proofs.BesideLemmas.{fitted_next, takes_of}
use Rattle.dual_fit.proofs.EarlyLemmas.{is_early}
use Rattle.dual_fit.proofs.TimedLemmas.{IsEarly, length_with, with_timed_formed}
use Rattle.dual_fit.proofs.TogetherLemmas.{empty_roomy, empty_unclashed, listed_alike}
use Rattle.dual_fit.specs.FittedBeside.{AreFittedBeside, AreTimes, HasNoTimes, IsFittedBeside, IsHideWithin, LacksAlone, LacksTimes, MayStand, StandTogether}
use Rattle.dual_fit.specs.Timed.{with_timed}
use Rattle.dual_fit.specs.declared.times.Times.{Times}

module _ (one two : Listing) (one_formed : IsFormed one) (one_ruled : IsRuled one) (formed : IsFormed two) (alike : AreAlike one two) where
  -- lists stand together, or don't
  pub together_decided : (cues : List Cue) → AllByRecursion IsCueFormed cues → length cues ≤ most_cues → Decided (StandTogether one (list_of two cues))
  together_decided cues all few = by_rules (ruled_or_broken listed)
    where
      listed : Listing
      listed = list_of two cues

      listed_formed : IsFormed listed
      listed_formed = list_of_formed two cues formed all few

      by_verdict : GoTogether one listed → (verdict : Verdict) → IsVerdict one listed verdict → Decided (StandTogether one listed)
      by_verdict together (Placed placed) is = inl (record { together = together; placed = placed; placement = is })
      by_verdict together (Lacking cue) is = inr (λ stand. judged_once one listed together (Placed stand.placed) (Lacking cue) stand.placement is)
      by_verdict together (LackingBeside cue) is = inr (λ stand. judged_once one listed together (Placed stand.placed) (LackingBeside cue) stand.placement is)

      by_clash : IsRuled listed → (clash : Option Clash) → IsLeast (IsFieldClash one listed) clash → Decided (StandTogether one listed)
      by_clash ruled (Some clash) least = inr (λ stand. stand.together.apart clash.second clash.first least.clashes)
      by_clash ruled None none =
          let together : GoTogether one listed = record {
            formed = one_formed;
            ruled = one_ruled;
            second_formed = listed_formed;
            second_ruled = ruled;
            alike = listed_alike one two cues formed alike;
            apart = none;
          } in
          let judged = each_judged one listed together in by_verdict together judged.0 judged.1

      by_rules : IsRuled listed ⊎ ((fault : RuleFault) × HasFault listed fault) → Decided (StandTogether one listed)
      by_rules (inl ruled) = let least = least_always one listed in by_clash ruled least.0 least.1
      by_rules (inr broken) = inr (λ stand. ruled_has_none listed broken.0 listed_formed stand.together.second_ruled broken.1)

  -- the first list has room by itself, or a cue of it is its first without
  pub alone_decided : (StandTogether one two → ⊥) → StandTogether one (list_of two []) ⊎ ((number : ℕ) × LacksAlone one two number)
  alone_decided apart = by_verdict judged.0 judged.1
    where
      together : GoTogether one (list_of two [])
      together = record {
        formed = one_formed;
        ruled = one_ruled;
        second_formed = list_of_formed two [] formed tt (omega arith);
        second_ruled = record { kept = tt };
        alike = listed_alike one two [] formed alike;
        apart = empty_unclashed one two;
      }

      judged : (verdict : Verdict) × IsVerdict one (list_of two []) verdict
      judged = each_judged one (list_of two []) together

      by_verdict : (verdict : Verdict) → IsVerdict one (list_of two []) verdict → StandTogether one (list_of two []) ⊎ ((number : ℕ) × LacksAlone one two number)
      by_verdict (Placed placed) is = inl (record { together = together; placed = placed; placement = is })
      by_verdict (Lacking cue) is = inr (cue, record { apart = apart; together = together; first = is })
      by_verdict (LackingBeside cue) is = absurd (empty_roomy one two cue is)

  module _ (late : ℕ) (most : late ≤ most_late) (takes : Bool) (earlier : List Cue) (cue : Cue) (all : AllByRecursion IsCueFormed earlier)
      (few : length earlier < most_cues) (early : IsEarly cue) where
    abbrev May : ℕ → Option ℕ → Type 0
    May show hide = MayStand late one two takes earlier cue (record { show = show; hide = hide })

    stand_decided : (show : ℕ) (hide : Option ℕ) → show < 2 ^ 32 → IsHideWithin late cue show hide
        → Decided (StandTogether one (list_of two (with_timed takes (record { show = show; hide = hide }) cue earlier)))
    stand_decided show hide small within =
        together_decided (with_timed takes (record { show = show; hide = hide }) cue earlier)
        (with_timed_formed takes (record { show = show; hide = hide }) cue earlier late early most small within all)
        (let count = length_with takes (record { show = show; hide = hide }) cue earlier in omega (arith, count, few))

    -- of the first HIDEs one is the least that does with a SHOW, or none does
    record Found (show : ℕ) : Type 0 where
      hide : Option ℕ
      may : May show hide
      least : (h other : ℕ) → hide ≡ Some h → other < h → May show (Some other) → ⊥

    hides_tried : (show asked : ℕ) → show < 2 ^ 32 → cue.hide ≡ Some asked → (k : ℕ) → k ≤ late + 1
        → Found show ⊎ ((hide : ℕ) → hide < asked + k → May show (Some hide) → ⊥)
    hides_tried show asked small is zero within =
        inr (λ hide less may.
        let same : cue.hide ≡ Some may.hide.0 = may.hide.1 in
        let asks : asked ≡ may.hide.0 = cc in
        let from = may.hide.2 in omega (arith, less, asks, from))
    hides_tried show asked small is (suc k) within =
        elim (hides_tried show asked small is k (omega arith)) [
          | inl found ↦ inl found
          | inr none ↦ elim (cases_lt show (asked + k)) [
            | inr most ↦ inr (λ hide less may. elim (cases_eq hide (asked + k)) [
              | inl same ↦ let after = may.hide.4 in absurd (omega (arith, after, most, same))
              | inr other ↦ none hide (omega (arith, less, other)) may
            ])
            | inl after ↦ elim (stand_decided show (Some (asked + k)) small (asked, is, omega arith, omega arith, after)) [
              | inl stands ↦ inl (record {
                hide = Some (asked + k);
                may = record { hide = (asked, is, omega arith, omega arith, after); together = stands };
                least = λ h other some less may. none other (let same : asked + k ≡ h = cc in omega (arith, less, same)) may;
              })
              | inr apart ↦ inr (λ hide less may. elim (cases_eq hide (asked + k)) [
                | inl same ↦ apart (subst (λ (h : ℕ). StandTogether one (list_of two (with_timed takes (record { show = show; hide = Some h }) cue earlier))) same may.together)
                | inr other ↦ none hide (omega (arith, less, other)) may
              ])
            ]
          ]
        ]

    hide_decided : (show : ℕ) → show < 2 ^ 32 → Found show ⊎ ((hide : Option ℕ) → May show hide → ⊥)
    hide_decided show small = by_hide cue.hide refl
      where
        by_hide : (asked : Option ℕ) → cue.hide ≡ asked → Found show ⊎ ((hide : Option ℕ) → May show hide → ⊥)
        by_hide None is =
            elim (stand_decided show None small is) [
              | inl stands ↦ inl (record { hide = None; may = record { hide = is; together = stands }; least = λ h other some less may. absurd (cc) })
              | inr apart ↦ inr (λ hide may. none_other hide may apart)
            ]
          where
            none_other : (hide : Option ℕ) → May show hide → (StandTogether one (list_of two (with_timed takes (record { show = show; hide = None }) cue earlier)) → ⊥) → ⊥
            none_other None may apart = apart may.together
            none_other (Some hide) may apart = let some : cue.hide ≡ Some may.hide.0 = may.hide.1 in absurd (cc)
        by_hide (Some asked) is =
            elim (hides_tried show asked small is (late + 1) (omega arith)) [
              | inl found ↦ inl found
              | inr none ↦ inr (λ hide may. some_other hide may none)
            ]
          where
            some_other : (hide : Option ℕ) → May show hide → ((hide : ℕ) → hide < asked + (late + 1) → May show (Some hide) → ⊥) → ⊥
            some_other None may none = let nothing : cue.hide ≡ None = may.hide in absurd (cc)
            some_other (Some hide) may none =
                let some : cue.hide ≡ Some may.hide.0 = may.hide.1 in
                let same : asked ≡ may.hide.0 = cc in
                let end = may.hide.3 in none hide (omega (arith, same, end)) may

    -- so of the first SHOWs
    shows_tried : (k : ℕ) → k ≤ late + 1
        → ((times : Times) × AreTimes late one two takes earlier cue times) ⊎ ((times : Times) → cue.show ≤ times.show → times.show < cue.show + k → May times.show times.hide → ⊥)
    shows_tried zero within = inr (λ times from less may. absurd (omega (arith, from, less)))
    shows_tried (suc k) within =
        elim (shows_tried k (omega arith)) [
          | inl found ↦ inl found
          | inr none ↦ elim (hide_decided (cue.show + k) (let low = early.shown in omega (arith, low, most, within))) [
            | inl found ↦ inl (
              record { show = cue.show + k; hide = found.hide },
              record {
                from = omega arith;
                within = omega arith;
                may = found.may;
                first = λ other from less may. none other from less may;
                least = λ h other some less may. found.least h other some less may;
              },
            )
            | inr not ↦ inr (λ times from less may. elim (cases_eq times.show (cue.show + k)) [
              | inl same ↦ not times.hide (subst (λ (show : ℕ). May show times.hide) same may)
              | inr other ↦ none times from (omega (arith, less, other)) may
            ])
          ]
        ]

    pub times_decided : ((times : Times) × AreTimes late one two takes earlier cue times) ⊎ HasNoTimes late one two takes earlier cue
    times_decided =
        elim (shows_tried (late + 1) (omega arith)) [
          | inl found ↦ inl found
          | inr none ↦ inr (λ times from within may. none times from (omega (arith, within)) may)
        ]

-- all cues are fitted, or one is the first that can't be
module _ (late : ℕ) (one two : Listing) (one_formed : IsFormed one) (one_ruled : IsRuled one) (formed : IsFormed two) (ruled : IsRuled two) (alike : AreAlike one two)
    (most : late ≤ most_late) (apart : StandTogether one two → ⊥) (alone : StandTogether one (list_of two [])) where
  longer : (xs : List Cue) (x : Cue) → length (xs ++ x ∷ []) ≡ suc (length xs)
  longer xs x = let both = length-append xs (x ∷ []) in omega (arith, both)

  cues_decided : (before after fitted : List Cue) → two.cues ≡ before ++ after → AreFittedBeside late one two [] [] before fitted → AllByRecursion IsCueFormed fitted
      → length fitted ≡ length before → length before + length after ≤ most_cues → AllByRecursion IsEarly after
      → ((all : List Cue) × AreFittedBeside late one two (reverse before) fitted after all) ⊎ ((number : ℕ) × LacksTimes late one two number)
  cues_decided before [] fitted split are all count few early = inl (fitted, refl)
  cues_decided before (cue ∷ after) fitted split are all count few early =
      let takes : Bool = takes_of cue (reverse before) in
      elim (times_decided one two one_formed one_ruled formed alike late most takes fitted cue all (omega arith) early.0) [
        | inl found ↦ elim (cues_decided (before ++ cue ∷ []) after (with_timed takes found.0 cue fitted)
            (split ∙ sym (append_assoc before (cue ∷ []) after))
            (fitted_next late one two before cue fitted found.0 are found.1)
            (with_timed_formed takes found.0 cue fitted late early.0 most
            (let low = early.0.shown in let within = found.1.within in omega (arith, low, within, most)) found.1.may.hide all)
            (length_with takes found.0 cue fitted ∙ ap suc count ∙ sym (longer before cue))
            (let long = longer before cue in omega (arith, long))
            early.1) [
              | inl rest ↦ inl (
                rest.0,
                (
                  found.0,
                  found.1,
                  subst (λ (l : List Cue). AreFittedBeside late one two l (with_timed takes found.0 cue fitted) after rest.0) (reverse-append before (cue ∷ [])) rest.1,
                ),
              )
              | inr lack ↦ inr lack
            ]
        | inr none ↦ inr (
          length before + 1,
          record {
            apart = apart;
            alone = alone;
            before = before;
            cue = cue;
            after = after;
            lacks = record { fitted = fitted; are = are; none = none };
            split = split;
            number_is = refl;
          },
        )
      ]

  all_early : AllByRecursion IsEarly two.cues
  all_early = recursion_from_All IsEarly two.cues (λ i d within.
      is_early two two.cues i (get_or two.cues i d) formed ruled refl within (get_or_default two.cues i d (get_or two.cues i d) within))

  pub moved_decided : ((fitted : Listing) × IsFittedBeside late one two fitted) ⊎ ((number : ℕ) × LacksTimes late one two number)
  moved_decided =
      elim (cues_decided [] two.cues [] refl refl tt refl (let few = formed.few in omega (arith, few)) all_early) [
        | inl all ↦ inl (list_of two all.0, inr (record { apart = apart; alone = alone; cues = all.0; are = all.1; is = refl }))
        | inr lack ↦ inr lack
      ]
