-- The cues of a list that keeps the rules are shown before its end, and lists that have a plan.
use Rattle.std.proofs.Common.{◌≡◌, ◌∙◌, ℕ, suc, ◌+◌, ◌<◌, ◌≤◌, List, [], ◌∷◌, ◌++◌, length, take, drop, drop-cons, get_or, reverse, Option, Some, None, refl, sym, ap, subst, arith}
use Rattle.std.specs.Prelude.{IfSome, IsSome, MatchOption}
use Rattle.std.specs.List.{AllByRecursion}
use Rattle.std.proofs.lemmas.List.{reverse-reverse, take-append-drop}
use Rattle.cue_lists.proofs.RuleLists.{cue_formed, newest_first}
use Rattle.cue_lists.specs.Cues.{IsCueFormed, IsOfKind}
use Rattle.cue_lists.specs.Lane.{kind_lane}
use Rattle.cue_lists.specs.Listing.{IsFormed, Listing}
use Rattle.cue_lists.specs.Rules.{IsRuled}
use Rattle.cue_lists.specs.Rules.Keeps.{KeepRules, KeepsRule, rules}
use Rattle.cue_lists.specs.declared.cue.Cue.{Cue}
use Rattle.cue_lists.specs.declared.cue.Kind.{Kind}
use Rattle.cue_lists.specs.declared.cue.Kind.TheVariants as kind
use Rattle.frame_scheduler.proofs.LanesLemmas.{placed_has_room}
use Rattle.frame_scheduler.specs.Planned.{IsFirstWithoutRoom}
use Rattle.cue_fit.specs.Fitted.{HasPlan}

-- what is hidden, or else shown, before the end is shown before it
before_end : (hide : Option ℕ) (show frames step : ℕ) → IfSome hide (λ hide. show < hide) → MatchOption hide (show < frames) (λ hide. hide + step + 1 ≤ frames)
    → show < frames
before_end None show frames step below end = end
before_end (Some hide) show frames step below end = omega arith

before_hide : (hide : Option ℕ) (show frames : ℕ) → IsSome hide → IfSome hide (λ hide. show < hide) → IfSome hide (λ hide. hide < frames) → show < frames
before_hide None show frames some below end = cc
before_hide (Some hide) show frames some below end = omega arith

-- a cue that keeps the rules is shown before the end of its list
shown_early : (l : Listing) (earlier : List Cue) (cue : Cue) → IsCueFormed cue → AllByRecursion (KeepsRule l earlier cue) rules → cue.show < l.frames
shown_early l earlier cue formed keeps = by_kind cue.kind refl formed.kind
  where
    below : IfSome cue.hide (λ hide. cue.show < hide)
    below = keeps.0.alone.1

    by_kind : (k : Kind) → cue.kind ≡ k → IsOfKind k cue.hide cue.runs → cue.show < l.frames
    by_kind (kind.Win w) is of =
        before_hide cue.hide cue.show l.frames of.1 below (keeps.1.1.1.1.1.1.1.0.alone.1 w.service (ap kind_lane is))
    by_kind (kind.Pop channel) is of = before_end cue.hide cue.show l.frames _ below (keeps.1.1.1.1.1.1.1.0.alone.0 channel (ap kind_lane is))
    by_kind (kind.Paint channel) is of = before_end cue.hide cue.show l.frames _ below (keeps.1.1.1.1.1.1.1.0.alone.0 channel (ap kind_lane is))
    by_kind (kind.Roll channel rows) is of = before_end cue.hide cue.show l.frames _ below (keeps.1.1.1.1.1.1.1.0.alone.0 channel (ap kind_lane is))

-- of cues that keep the rules, the earlier ones do
pub keep_earlier : (l : Listing) (xs ys : List Cue) → KeepRules l (xs ++ ys) → KeepRules l ys
keep_earlier l [] ys all = all
keep_earlier l (x ∷ xs) ys all = keep_earlier l xs ys all.1

-- so is each cue of a list that keeps the rules
pub cue_early : (l : Listing) (cues : List Cue) (i : ℕ) (x : Cue) → IsFormed l → IsRuled l → cues ≡ l.cues → i < length cues → x ≡ get_or cues i x
    → x.show < l.frames
cue_early l cues i x formed ruled are within is =
    let rest : drop i cues ≡ x ∷ drop (suc i) cues = drop-cons cues i x within ∙ ap (λ y. y ∷ drop (suc i) cues) (sym is) in
    let split : cues ≡ reverse (reverse (take i cues)) ++ x ∷ drop (suc i) cues = sym (take-append-drop i cues) ∙ rw (reverse-reverse, rest) refl in
    let back : reverse l.cues ≡ reverse (drop (suc i) cues) ++ x ∷ reverse (take i cues) =
    ap reverse (sym are ∙ split) ∙ newest_first (reverse (take i cues)) x (drop (suc i) cues) in
    let here = keep_earlier l (reverse (drop (suc i) cues)) (x ∷ reverse (take i cues)) (subst (KeepRules l) back ruled.kept) in
    shown_early l (reverse (take i cues)) x (cue_formed l cues i x formed are within is) here.0

-- a list with a first cue without room has no plan
pub crowded_has_none : (l : Listing) (cue : ℕ) → IsFirstWithoutRoom l cue → HasPlan l → ⊥
crowded_has_none l cue without plan = placed_has_room l plan.placed cue plan.placement without
