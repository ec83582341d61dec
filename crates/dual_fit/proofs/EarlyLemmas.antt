-- The cues of a list that keeps the rules are early enough to be moved.
use Rattle.std.proofs.Common.{◌≡◌, ◌∙◌, ℕ, suc, ◌+◌, ◌<◌, ◌≤◌, List, ◌∷◌, ◌++◌, length, take, drop, drop-cons, get_or, reverse, Option, Some, refl, sym, ap, subst, arith}
use Rattle.std.specs.Prelude.{IfSome, MatchOption}
use Rattle.std.specs.List.{AllByRecursion}
use Rattle.std.proofs.lemmas.List.{reverse-reverse, take-append-drop}
use Rattle.cue_lists.proofs.RuleLists.{cue_formed, newest_first}
use Rattle.cue_lists.specs.Cues.{IsCueFormed}
use Rattle.cue_lists.specs.Lane.{kind_lane}
use Rattle.cue_lists.specs.Listing.{IsFormed, Listing, most_frames}
use Rattle.cue_lists.specs.Rules.{IsRuled}
use Rattle.cue_lists.specs.Rules.Keeps.{KeepRules, KeepsRule, rules}
use Rattle.cue_lists.specs.declared.cue.Cue.{Cue}
use Rattle.cue_lists.specs.declared.cue.Kind.{Kind}
use Rattle.cue_lists.specs.declared.cue.Kind.TheVariants as kind
use Rattle.cue_fit.proofs.PlanLemmas.{cue_early, keep_earlier}
use Rattle.dual_fit.proofs.TimedLemmas.{IsEarly}

-- a cue that keeps the rules is hidden before the end of its list
hidden_early : (l : Listing) (earlier : List Cue) (cue : Cue) → AllByRecursion (KeepsRule l earlier cue) rules → (hide : ℕ) → cue.hide ≡ Some hide → hide ≤ l.frames
hidden_early l earlier cue keeps hide is = by_kind cue.kind refl
  where
    on_channel : (step : ℕ) → MatchOption cue.hide (cue.show < l.frames) (λ hide. hide + step + 1 ≤ l.frames) → hide ≤ l.frames
    on_channel step fact =
        let now : hide + step + 1 ≤ l.frames = subst (λ (h : Option ℕ). MatchOption h (cue.show < l.frames) (λ hide. hide + step + 1 ≤ l.frames)) is fact in
        omega (arith, now)

    by_kind : (k : Kind) → cue.kind ≡ k → hide ≤ l.frames
    by_kind (kind.Win w) same =
        let fact : IfSome cue.hide (λ hide. hide < l.frames) = keeps.1.1.1.1.1.1.1.0.alone.1 w.service (ap kind_lane same) in
        let now : hide < l.frames = subst (λ (h : Option ℕ). IfSome h (λ hide. hide < l.frames)) is fact in
        omega (arith, now)
    by_kind (kind.Pop channel) same = on_channel _ (keeps.1.1.1.1.1.1.1.0.alone.0 channel (ap kind_lane same))
    by_kind (kind.Paint channel) same = on_channel _ (keeps.1.1.1.1.1.1.1.0.alone.0 channel (ap kind_lane same))
    by_kind (kind.Roll channel rows) same = on_channel _ (keeps.1.1.1.1.1.1.1.0.alone.0 channel (ap kind_lane same))

-- so is each cue of such a list
pub is_early : (l : Listing) (cues : List Cue) (i : ℕ) (x : Cue) → IsFormed l → IsRuled l → cues ≡ l.cues → i < length cues → x ≡ get_or cues i x → IsEarly x
is_early l cues i x formed ruled are within is =
    let rest : drop i cues ≡ x ∷ drop (suc i) cues = drop-cons cues i x within ∙ ap (λ y. y ∷ drop (suc i) cues) (sym is) in
    let split : cues ≡ reverse (reverse (take i cues)) ++ x ∷ drop (suc i) cues = sym (take-append-drop i cues) ∙ rw (reverse-reverse, rest) refl in
    let back : reverse l.cues ≡ reverse (drop (suc i) cues) ++ x ∷ reverse (take i cues) =
    ap reverse (sym are ∙ split) ∙ newest_first (reverse (take i cues)) x (drop (suc i) cues) in
    let here = keep_earlier l (reverse (drop (suc i) cues)) (x ∷ reverse (take i cues)) (subst (KeepRules l) back ruled.kept) in
    let most = formed.frames in
    record {
      formed = cue_formed l cues i x formed are within is;
      shown = let low = cue_early l cues i x formed ruled are within is in omega (arith, low, most);
      hidden = λ hide some. let low = hidden_early l (reverse (take i cues)) x here.0 hide some in omega (arith, low, most);
    }
