-- A second list is fitted in one way, or one cue is its first that can't be.
use Rattle.std.proofs.Common.{◌≡◌, ◌∙◌, ℕ, ◌+◌, ◌<◌, ◌≤◌, inl, inr, Bool, List, [], ◌∷◌, ◌++◌, length, reverse, Option, Some, None, refl, sym, ap, subst, arith}
use Rattle.std.proofs.lemmas.Bool.{cases_lt}
use Rattle.std.proofs.lemmas.List.{append-nil, append_assoc}
use Rattle.cue_lists.proofs.LaneCues.{reverse-cons}
use Rattle.cue_lists.specs.Listing.{Listing}
use Rattle.cue_lists.specs.Printing.{in_order}
use Rattle.cue_lists.specs.declared.cue.Cue.{Cue}
use Rattle.cue_fit.specs.Fitted.{list_of}
use Rattle.dual_fit.proofs.BesideLemmas.{takes_of}
use Rattle.dual_fit.specs.FittedBeside.{AreFittedBeside, AreTimes, HasNoTimes, IsFittedBeside, IsHideWithin, IsMovedBeside, LacksTimes, MayStand}
use Rattle.dual_fit.specs.Timed.{with_timed}
use Rattle.dual_fit.specs.declared.times.Times.{Times}

module _ (late : ℕ) (one two : Listing) where
  -- a cue has one SHOW, and with that one HIDE
  same_hide : (takes : Bool) (earlier : List Cue) (cue : Cue) (show : ℕ) (a b : Option ℕ)
      → AreTimes late one two takes earlier cue (record { show = show; hide = a }) → AreTimes late one two takes earlier cue (record { show = show; hide = b }) → a ≡ b
  same_hide takes earlier cue show None None p q = refl
  same_hide takes earlier cue show None (Some b) p q =
      let none : cue.hide ≡ None = p.may.hide in
      let some : cue.hide ≡ Some q.may.hide.0 = q.may.hide.1 in
      absurd (cc)
  same_hide takes earlier cue show (Some a) None p q =
      let none : cue.hide ≡ None = q.may.hide in
      let some : cue.hide ≡ Some p.may.hide.0 = p.may.hide.1 in
      absurd (cc)
  same_hide takes earlier cue show (Some a) (Some b) p q =
      elim (cases_lt a b) [
        | inl less ↦ absurd (q.least b a refl less p.may)
        | inr most ↦ elim (cases_lt b a) [
          | inl less ↦ absurd (p.least a b refl less q.may)
          | inr least ↦ ap (λ (h : ℕ). Some h) (let same : a ≡ b = omega arith in same)
        ]
      ]

  same_times : (takes : Bool) (earlier : List Cue) (cue : Cue) (a b : Times) → a.show ≡ b.show
      → AreTimes late one two takes earlier cue a → AreTimes late one two takes earlier cue b → a ≡ b
  same_times takes earlier cue a b same p q =
      let moved : AreTimes late one two takes earlier cue (record { show = b.show; hide = a.hide }) =
      subst (λ (show : ℕ). AreTimes late one two takes earlier cue (record { show = show; hide = a.hide })) same p in
      ap (λ (show : ℕ). record { show = show; hide = a.hide }) same
      ∙ ap (λ (hide : Option ℕ). record { show = b.show; hide = hide }) (same_hide takes earlier cue b.show a.hide b.hide moved q)

  one_time : (takes : Bool) (earlier : List Cue) (cue : Cue) (a b : Times)
      → AreTimes late one two takes earlier cue a → AreTimes late one two takes earlier cue b → a ≡ b
  one_time takes earlier cue a b p q =
      elim (cases_lt a.show b.show) [
        | inl less ↦ absurd (q.first a p.from less p.may)
        | inr most ↦ elim (cases_lt b.show a.show) [
          | inl less ↦ absurd (p.first b q.from less q.may)
          | inr least ↦ same_times takes earlier cue a b (omega arith) p q
        ]
      ]

  -- so cues are fitted in one way
  pub one_way : (asked earlier cues a b : List Cue) → AreFittedBeside late one two asked earlier cues a → AreFittedBeside late one two asked earlier cues b → a ≡ b
  one_way asked earlier [] a b p q = p ∙ sym q
  one_way asked earlier (cue ∷ cues) a b p q =
      let same : q.0 ≡ p.0 = one_time (takes_of cue asked) earlier cue q.0 p.0 q.1 p.1 in
      one_way (cue ∷ asked) (with_timed (takes_of cue asked) p.0 cue earlier) cues a b p.2
      (subst (λ (times : Times). AreFittedBeside late one two (cue ∷ asked) (with_timed (takes_of cue asked) times cue earlier) cues b) same q.2)

  -- where some are fitted with others after them, they are fitted by themselves
  record Front (asked earlier cues after fitted : List Cue) : Type 0 where
    front : List Cue
    are : AreFittedBeside late one two asked earlier cues front
    rest : AreFittedBeside late one two (reverse cues ++ asked) front after fitted

  fitted_front : (asked earlier cues after fitted : List Cue) → AreFittedBeside late one two asked earlier (cues ++ after) fitted → Front asked earlier cues after fitted
  fitted_front asked earlier [] after fitted are = record { front = earlier; are = refl; rest = are }
  fitted_front asked earlier (cue ∷ cues) after fitted are =
      let w = fitted_front (cue ∷ asked) (with_timed (takes_of cue asked) are.0 cue earlier) cues after fitted are.2 in
      let turned : reverse cues ++ cue ∷ asked ≡ reverse (cue ∷ cues) ++ asked =
      sym (ap (λ (l : List Cue). l ++ asked) (reverse-cons cue cues) ∙ append_assoc (reverse cues) (cue ∷ []) asked) in
      record {
        front = w.front;
        are = (are.0, are.1, w.are);
        rest = subst (λ (l : List Cue). AreFittedBeside late one two l w.front after fitted) turned w.rest;
      }

  -- a cue that has no times after some isn't fitted after them
  pub not_fitted : (before after fitted front : List Cue) (cue : Cue) → AreFittedBeside late one two [] [] before front
      → HasNoTimes late one two (takes_of cue (reverse before)) front cue → AreFittedBeside late one two [] [] (before ++ cue ∷ after) fitted → ⊥
  not_fitted before after fitted front cue are none all =
      let w = fitted_front [] [] before (cue ∷ after) fitted all in
      let same : w.front ≡ front = one_way [] [] before w.front front w.are are in
      let rest : AreFittedBeside late one two (reverse before) front (cue ∷ after) fitted =
      subst (λ (e : List Cue). AreFittedBeside late one two (reverse before) e (cue ∷ after) fitted) same
      (subst (λ (l : List Cue). AreFittedBeside late one two l w.front (cue ∷ after) fitted) (append-nil (reverse before)) w.rest) in
      none rest.0 rest.1.from rest.1.within rest.1.may

  -- of two fronts of one list, the shorter one is a front of the longer one
  record IsFrontOf (before : List Cue) (cue : Cue) (longer : List Cue) : Type 0 where
    rest : List Cue
    is : longer ≡ before ++ cue ∷ rest

  shorter : (before : List Cue) (cue : Cue) (after longer others : List Cue) → before ++ cue ∷ after ≡ longer ++ others → length before < length longer
      → IsFrontOf before cue longer
  shorter [] cue after [] others same less = absurd (omega arith)
  shorter [] cue after (x ∷ longer) others same less =
      let head : cue ≡ x = cc in record { rest = longer; is = ap (λ (c : Cue). c ∷ longer) (sym head) }
  shorter (b ∷ before) cue after [] others same less = absurd (omega arith)
  shorter (b ∷ before) cue after (x ∷ longer) others same less =
      let head : b ≡ x = cc in
      let tail : before ++ cue ∷ after ≡ longer ++ others = cc in
      let w = shorter before cue after longer others tail (omega arith) in
      record { rest = w.rest; is = ap (λ (l : List Cue). x ∷ l) w.is ∙ ap (λ (c : Cue). c ∷ (before ++ cue ∷ w.rest)) (sym head) }

  not_less : (a b : ℕ) → LacksTimes late one two a → LacksTimes late one two b → a < b → ⊥
  not_less a b p q less =
      let w = shorter p.before p.cue p.after q.before (q.cue ∷ q.after) (sym p.split ∙ q.split)
      (let first : a ≡ length p.before + 1 = p.number_is in let second : b ≡ length q.before + 1 = q.number_is in omega (arith, first, second, less)) in
      not_fitted p.before w.rest q.lacks.fitted p.lacks.fitted p.cue p.lacks.are p.lacks.none
      (subst (λ (l : List Cue). AreFittedBeside late one two [] [] l q.lacks.fitted) w.is q.lacks.are)

  -- one cue is the first that has no times
  pub one_lack : (a b : ℕ) → LacksTimes late one two a → LacksTimes late one two b → a ≡ b
  one_lack a b p q =
      elim (cases_lt a b) [
        | inl less ↦ absurd (not_less a b p q less)
        | inr most ↦ elim (cases_lt b a) [
          | inl less ↦ absurd (not_less b a q p less)
          | inr least ↦ omega arith
        ]
      ]

  -- and then the list isn't fitted
  pub lacks_none : (number : ℕ) (fitted : Listing) → LacksTimes late one two number → IsFittedBeside late one two fitted → ⊥
  lacks_none number fitted p (inl same) = p.apart same.0
  lacks_none number fitted p (inr q) =
      not_fitted p.before p.after q.cues p.lacks.fitted p.cue p.lacks.are p.lacks.none
      (subst (λ (l : List Cue). AreFittedBeside late one two [] [] l q.cues) p.split q.are)

  pub one_fit : (a b : Listing) → IsFittedBeside late one two a → IsFittedBeside late one two b → a ≡ b
  one_fit a b (inl p) (inl q) = p.1 ∙ sym q.1
  one_fit a b (inl p) (inr q) = absurd (q.apart p.0)
  one_fit a b (inr p) (inl q) = absurd (p.apart q.0)
  one_fit a b (inr p) (inr q) = p.is ∙ ap (λ (cues : List Cue). list_of two cues) (one_way [] [] two.cues p.cues q.cues p.are q.are) ∙ sym q.is
