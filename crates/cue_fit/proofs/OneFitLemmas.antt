-- A list is fitted in one way, or one cue is its first that can't be shown.
use Rattle.std.proofs.Common.{◌≡◌, ◌∙◌, ℕ, ◌+◌, ◌<◌, inl, inr, List, [], ◌∷◌, ◌++◌, length, refl, sym, ap, subst, arith}
use Rattle.std.proofs.lemmas.Bool.{cases_lt}
use Rattle.cue_lists.specs.Listing.{Listing}
use Rattle.cue_lists.specs.declared.cue.Cue.{Cue}
use Rattle.cue_fit.specs.Fitted.{AreFitted, HasNoShow, IsFitted, IsShow, LacksShow, list_of}
use Rattle.cue_fit.specs.Shown.{with_shown}

module _ (late : ℕ) (list : Listing) where
  -- a cue is shown in one frame
  one_show : (earlier : List Cue) (cue : Cue) (f g : ℕ) → IsShow late list earlier cue f → IsShow late list earlier cue g → f ≡ g
  one_show earlier cue f g p q =
      elim (cases_lt f g) [
        | inl less ↦ absurd (q.first f p.from less p.may)
        | inr most ↦ elim (cases_lt g f) [
          | inl less ↦ absurd (p.first g q.from less q.may)
          | inr least ↦ omega arith
        ]
      ]

  -- so cues are fitted in one way
  pub one_way : (earlier cues a b : List Cue) → AreFitted late list earlier cues a → AreFitted late list earlier cues b → a ≡ b
  one_way earlier [] a b p q = p ∙ sym q
  one_way earlier (cue ∷ cues) a b p q =
      let same : q.0 ≡ p.0 = one_show earlier cue q.0 p.0 q.1 p.1 in
      one_way (with_shown p.0 cue earlier) cues a b p.2
      (subst (λ (frame : ℕ). AreFitted late list (with_shown frame cue earlier) cues b) same q.2)

  -- where some are fitted with others after them, they are fitted by themselves
  pub fitted_front : (earlier cues after fitted : List Cue) → AreFitted late list earlier (cues ++ after) fitted
      → (front : List Cue) × AreFitted late list earlier cues front × AreFitted late list front after fitted
  fitted_front earlier [] after fitted are = (earlier, refl, are)
  fitted_front earlier (cue ∷ cues) after fitted are =
      let rest = fitted_front (with_shown are.0 cue earlier) cues after fitted are.2 in
      (rest.0, (are.0, are.1, rest.1), rest.2)

  -- a cue that can't be shown after some isn't fitted after them
  pub not_fitted : (before after fitted front : List Cue) (cue : Cue) → AreFitted late list [] before front → HasNoShow late list front cue
      → AreFitted late list [] (before ++ cue ∷ after) fitted → ⊥
  not_fitted before after fitted front cue are none all =
      let w = fitted_front [] before (cue ∷ after) fitted all in
      let same : w.0 ≡ front = one_way [] before w.0 front w.1 are in
      let shown : IsShow late list front cue w.2.0 = subst (λ (e : List Cue). IsShow late list e cue w.2.0) same w.2.1 in
      none w.2.0 shown.from shown.within shown.may

  -- of two fronts of one list, the shorter one is a front of the longer one
  record IsFrontOf (before : List Cue) (cue : Cue) (longer : List Cue) : Type 0 where
    rest : List Cue
    is : longer ≡ before ++ cue ∷ rest

  shorter : (before : List Cue) (cue : Cue) (after longer others : List Cue) → before ++ cue ∷ after ≡ longer ++ others → length before < length longer
      → IsFrontOf before cue longer
  shorter [] cue after [] others same less = absurd (omega arith)
  shorter [] cue after (x ∷ longer) others same less =
      let head : cue ≡ x = cc in record { rest = longer; is = ap (λ (c : Cue). c ∷ longer) (sym head) }
  shorter (b ∷ before) cue after [] others same less = absurd (omega arith)
  shorter (b ∷ before) cue after (x ∷ longer) others same less =
      let head : b ≡ x = cc in
      let tail : before ++ cue ∷ after ≡ longer ++ others = cc in
      let w = shorter before cue after longer others tail (omega arith) in
      record { rest = w.rest; is = ap (λ (l : List Cue). x ∷ l) w.is ∙ ap (λ (c : Cue). c ∷ (before ++ cue ∷ w.rest)) (sym head) }

  not_less : (a b : ℕ) → LacksShow late list a → LacksShow late list b → a < b → ⊥
  not_less a b p q less =
      let one : a ≡ length p.before + 1 = p.number_is in
      let two : b ≡ length q.before + 1 = q.number_is in
      let w = shorter p.before p.cue p.after q.before (q.cue ∷ q.after) (sym p.split ∙ q.split) (omega arith) in
      not_fitted p.before w.rest q.fitted p.fitted p.cue p.are p.none
      (subst (λ (l : List Cue). AreFitted late list [] l q.fitted) w.is q.are)

  -- one cue is the first that can't be shown
  pub one_lack : (a b : ℕ) → LacksShow late list a → LacksShow late list b → a ≡ b
  one_lack a b p q =
      elim (cases_lt a b) [
        | inl less ↦ absurd (not_less a b p q less)
        | inr most ↦ elim (cases_lt b a) [
          | inl less ↦ absurd (not_less b a q p less)
          | inr least ↦ omega arith
        ]
      ]

  -- and then the list isn't fitted
  pub lacks_none : (number : ℕ) (fitted : Listing) → LacksShow late list number → IsFitted late list fitted → ⊥
  lacks_none number fitted p q =
      not_fitted p.before p.after q.cues p.fitted p.cue p.are p.none (subst (λ (l : List Cue). AreFitted late list [] l q.cues) p.split q.are)

  pub one_fit : (a b : Listing) → IsFitted late list a → IsFitted late list b → a ≡ b
  one_fit a b p q = p.is ∙ ap (λ (cues : List Cue). list_of list cues) (one_way [] list.cues p.cues q.cues p.are q.are) ∙ sym q.is
