-- Placements over what a lane allows: their parts, that the earliest is one, and the law of one more unit.
use Rattle.std.proofs.Common.{◌≡◌, ℕ, ◌≤◌, List, [], ◌∷◌, ◌++◌, refl, sym, ap, ◌∙◌, subst, arith, append_assoc}
use Rattle.std.proofs.lemmas.List.{append-nil}
use Rattle.std.specs.List.{zip}
use Rattle.lanes.specs.Placing.{IsPlaced, IsEarliest, NoLater, HasPlacement}
use Rattle.lanes.specs.OneMore.{FitsEarlier, OneMore}

-- no list of frames is later than itself
pub no_later_same : (fs : List ℕ) → NoLater fs fs
no_later_same [] = tt
no_later_same (f ∷ fs) = (omega arith, no_later_same fs)

-- two lists of frames, neither of them later, are one
pub no_later_both : (fs gs : List ℕ) → NoLater fs gs → NoLater gs fs → fs ≡ gs
no_later_both [] [] a b = refl
no_later_both [] (g ∷ gs) a b = absurd a
no_later_both (f ∷ fs) [] a b = absurd a
no_later_both (f ∷ fs) (g ∷ gs) a b =
    let head : f ≡ g = omega (arith, a.0, b.0) in
    let rest : fs ≡ gs = no_later_both fs gs a.1 b.1 in
    cc

-- one more frame on each side
pub no_later_push : (fs gs : List ℕ) (f g : ℕ) → NoLater fs gs → f ≤ g → NoLater (fs ++ f ∷ []) (gs ++ g ∷ [])
no_later_push [] [] f g a h = (h, tt)
no_later_push [] (b ∷ gs) f g a h = absurd a
no_later_push (c ∷ fs) [] f g a h = absurd a
no_later_push (c ∷ fs) (b ∷ gs) f g a h = (a.0, no_later_push fs gs f g a.1 h)

-- the frames before the last ones
pub no_later_front : (fs gs : List ℕ) (f g : ℕ) → NoLater (fs ++ f ∷ []) (gs ++ g ∷ []) → NoLater fs gs
no_later_front [] [] f g a = tt
no_later_front [] (b ∷ []) f g a = absurd a.1
no_later_front [] (b ∷ (d ∷ gs)) f g a = absurd a.1
no_later_front (c ∷ []) [] f g a = absurd a.1
no_later_front (c ∷ (d ∷ fs)) [] f g a = absurd a.1
no_later_front (c ∷ fs) (b ∷ gs) f g a = (a.0, no_later_front fs gs f g a.1)

-- a placement, and one more unit where it is allowed
pub placed_push : {U : Type 0} (allowed : List (U × ℕ) → U → ℕ → Type 0) (before : List (U × ℕ)) (us : List U) (fs : List ℕ) (u : U) (f : ℕ)
    → IsPlaced allowed before us fs → allowed (before ++ zip us fs) u f → IsPlaced allowed before (us ++ u ∷ []) (fs ++ f ∷ [])
placed_push allowed before [] [] u f p a = (subst (λ b. allowed b u f) (append-nil before) a, tt)
placed_push allowed before [] (g ∷ fs) u f p a = absurd p
placed_push allowed before (v ∷ us) [] u f p a = absurd p
placed_push {U} allowed before (v ∷ us) (g ∷ fs) u f p a = (
  p.0,
  placed_push allowed (before ++ (v, g) ∷ []) us fs u f p.1
      (subst (λ b. allowed b u f) (sym (append_assoc before ((v, g) ∷ []) (zip us fs))) a),
)

-- the units of a placement with one more
pub zip_push : {U : Type 0} (allowed : List (U × ℕ) → U → ℕ → Type 0) (before : List (U × ℕ)) (us : List U) (fs : List ℕ) (u : U) (f : ℕ)
    → IsPlaced allowed before us fs → zip (us ++ u ∷ []) (fs ++ f ∷ []) ≡ zip us fs ++ (u, f) ∷ []
zip_push allowed before [] [] u f p = refl
zip_push allowed before [] (g ∷ fs) u f p = absurd p
zip_push allowed before (v ∷ us) [] u f p = absurd p
zip_push allowed before (v ∷ us) (g ∷ fs) u f p = ap (λ l. (v, g) ∷ l) (zip_push allowed (before ++ (v, g) ∷ []) us fs u f p.1)

-- a placement in two parts
pub record Parts {U : Type 0} (allowed : List (U × ℕ) → U → ℕ → Type 0) (before : List (U × ℕ)) (us vs : List U) (hs : List ℕ) : Type 0 where
  pub front : List ℕ
  pub back : List ℕ
  pub is : hs ≡ front ++ back
  pub placed : IsPlaced allowed before us front
  pub rest : IsPlaced allowed (before ++ zip us front) vs back

-- a placement of two lists, one after the other, has two parts
pub placed_parts : {U : Type 0} (allowed : List (U × ℕ) → U → ℕ → Type 0) (before : List (U × ℕ)) (us vs : List U) (hs : List ℕ)
    → IsPlaced allowed before (us ++ vs) hs → Parts allowed before us vs hs
placed_parts allowed before [] vs hs p =
    record { front = []; back = hs; is = refl; placed = tt; rest = subst (λ b. IsPlaced allowed b vs hs) (sym (append-nil before)) p }
placed_parts allowed before (u ∷ us) vs [] p = absurd p
placed_parts allowed before (u ∷ us) vs (h ∷ hs) p =
    let w = placed_parts allowed (before ++ (u, h) ∷ []) us vs hs p.1 in
    record {
      front = h ∷ w.front;
      back = w.back;
      is = ap (λ l. h ∷ l) w.is;
      placed = (p.0, w.placed);
      rest = subst (λ b. IsPlaced allowed b vs w.back) (append_assoc before ((u, h) ∷ []) (zip us w.front)) w.rest;
    }

-- a placement of a list and one more unit
pub record Last {U : Type 0} (allowed : List (U × ℕ) → U → ℕ → Type 0) (us : List U) (u : U) (hs : List ℕ) : Type 0 where
  pub front : List ℕ
  pub frame : ℕ
  pub is : hs ≡ front ++ frame ∷ []
  pub placed : IsPlaced allowed [] us front
  pub fits : allowed (zip us front) u frame

-- the part of one unit
last_from : {U : Type 0} (allowed : List (U × ℕ) → U → ℕ → Type 0) (us : List U) (u : U) (hs front back : List ℕ) → hs ≡ front ++ back
    → IsPlaced allowed [] us front → IsPlaced allowed (zip us front) (u ∷ []) back → Last allowed us u hs
last_from allowed us u hs front [] e p q = absurd q
last_from allowed us u hs front (h ∷ []) e p q = record { front = front; frame = h; is = e; placed = p; fits = q.0 }
last_from allowed us u hs front (h ∷ (g ∷ gs)) e p q = absurd q.1

-- a placement of a list and one more unit has a last frame
pub placed_last : {U : Type 0} (allowed : List (U × ℕ) → U → ℕ → Type 0) (us : List U) (u : U) (hs : List ℕ)
    → IsPlaced allowed [] (us ++ u ∷ []) hs → Last allowed us u hs
placed_last allowed us u hs p =
    let w = placed_parts allowed [] us (u ∷ []) hs p in
    last_from allowed us u hs w.front w.back w.is w.placed w.rest

-- the units in front have a placement where all have
pub placed_prefix : {U : Type 0} (allowed : List (U × ℕ) → U → ℕ → Type 0) (us vs : List U) (hs : List ℕ)
    → IsPlaced allowed [] (us ++ vs) hs → (fs : List ℕ) × IsPlaced allowed [] us fs
placed_prefix allowed us vs hs p = let w = placed_parts allowed [] us vs hs p in (w.front, w.placed)

-- where the units in front have no placement, all have none
pub none_append : {U : Type 0} (allowed : List (U × ℕ) → U → ℕ → Type 0) (us vs : List U) → (HasPlacement allowed us → ⊥)
    → HasPlacement allowed (us ++ vs) → ⊥
none_append allowed us vs none has = none (placed_prefix allowed us vs has.0 has.1)

-- there is one earliest placement
pub earliest_same : {U : Type 0} (allowed : List (U × ℕ) → U → ℕ → Type 0) (us : List U) (fs gs : List ℕ)
    → IsEarliest allowed us fs → IsEarliest allowed us gs → fs ≡ gs
earliest_same allowed us fs gs a b = no_later_both fs gs (a.first gs b.placed) (b.first fs a.placed)

-- no units have the empty placement
pub earliest_none : {U : Type 0} (allowed : List (U × ℕ) → U → ℕ → Type 0) → IsEarliest allowed [] []
earliest_none {U} allowed = record { placed = tt; first = none_first }
  where
    none_first : (gs : List ℕ) → IsPlaced allowed [] [] gs → NoLater [] gs
    none_first [] p = tt
    none_first (g ∷ gs) p = p

-- the law of one more unit
pub one_more : {U : Type 0} (allowed : List (U × ℕ) → U → ℕ → Type 0) → FitsEarlier allowed
    → (us : List U) (fs : List ℕ) (u : U) → IsEarliest allowed us fs → OneMore allowed us fs u
one_more {U} allowed fits us fs u e = record {
  none = λ nowhere has.
      let w = placed_last allowed us u has.0 has.1 in
      nowhere w.frame (earlier w);
  some = λ f a. placed_push allowed [] us fs u f e.placed a;
  first = λ f a least. record {
    placed = placed_push allowed [] us fs u f e.placed a;
    first = λ hs p.
        let w = placed_last allowed us u hs p in
        subst (λ l. NoLater (fs ++ f ∷ []) l) (sym w.is)
        (no_later_push fs w.front f w.frame (e.first w.front w.placed) (least w.frame (earlier w)));
  };
  only = λ hs h.
      let w = placed_last allowed us u hs h.placed in
      let a : allowed (zip us fs) u w.frame = earlier w in
      let back : NoLater w.front fs =
      no_later_front w.front fs w.frame w.frame
      (subst (λ l. NoLater l (fs ++ w.frame ∷ [])) w.is (h.first (fs ++ w.frame ∷ []) (placed_push allowed [] us fs u w.frame e.placed a))) in
      let same : w.front ≡ fs = no_later_both w.front fs back (e.first w.front w.placed) in
      (w.frame, w.is ∙ ap (λ l. l ++ w.frame ∷ []) same, a);
}
  where
    earlier : {hs : List ℕ} → (w : Last allowed us u hs) → allowed (zip us fs) u w.frame
    earlier w = fits us fs w.front u w.frame e.placed w.placed (e.first w.front w.placed) w.fits
