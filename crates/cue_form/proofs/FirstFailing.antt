-- The first element of a list of which something doesn't hold: where it is found, and that there is one at most.
use Rattle.std.proofs.Common.{◌≡◌, List, [], ◌∷◌, ◌++◌, length, length-append, refl, sym, ap, subst, ◌∙◌, arith}
use Rattle.std.specs.List.{AllByRecursion}
use Rattle.cue_form.specs.FirstFailing.{IsFirstFailing}

module _ {A : Type 0} (Holds : A → Type 0) where
  -- what holds of all holds of one of them
  pub holds_at : (xs before : List A) (x : A) (after : List A) → xs ≡ before ++ x ∷ after → AllByRecursion Holds xs → Holds x
  holds_at xs before x after split all = of_before before (subst (λ (l : List A). AllByRecursion Holds l) split all)
    where
      of_before : (before : List A) → AllByRecursion Holds (before ++ x ∷ after) → Holds x
      of_before [] all = all.0
      of_before (y ∷ before) all = of_before before all.1

  -- two elements of a list of which it doesn't hold, where it holds of all before each
  apart : (front back : List A) (x y : A) (after rest : List A) → front ++ x ∷ after ≡ back ++ y ∷ rest
      → AllByRecursion Holds front → AllByRecursion Holds back → (Holds x → ⊥) → (Holds y → ⊥) → (x ≡ y) × (after ≡ rest)
  apart [] [] x y after rest same all others not_x not_y =
      let heads : x ≡ y = cc in
      let tails : after ≡ rest = cc in
      (heads, tails)
  apart [] (z ∷ back) x y after rest same all others not_x not_y =
      let heads : z ≡ x = cc in absurd (not_x (subst Holds heads others.0))
  apart (z ∷ front) [] x y after rest same all others not_x not_y =
      let heads : z ≡ y = cc in absurd (not_y (subst Holds heads all.0))
  apart (z ∷ front) (w ∷ back) x y after rest same all others not_x not_y =
      let tails : front ++ x ∷ after ≡ back ++ y ∷ rest = cc in
      apart front back x y after rest tails all.1 others.1 not_x not_y

  -- there is one first element at most
  pub one_first : (xs : List A) (x y : A) (a : IsFirstFailing Holds xs x) (b : IsFirstFailing Holds xs y)
      → (x ≡ y) × (a.after ≡ b.after)
  one_first xs x y a b = apart a.before b.before x y a.after b.after (sym a.split ∙ b.split) a.all b.all a.fails b.fails

  -- one more before the first
  abbrev pub first_later : (y : A) (xs : List A) (x : A) → Holds y → IsFirstFailing Holds xs x → IsFirstFailing Holds (y ∷ xs) x
  first_later y xs x holds first = record {
    before = y ∷ first.before;
    after = first.after;
    split = ap (λ (l : List A). y ∷ l) first.split;
    all = (holds, first.all);
    fails = first.fails;
  }

  -- the element at the front
  abbrev pub first_here : (x : A) (xs : List A) → (Holds x → ⊥) → IsFirstFailing Holds (x ∷ xs) x
  first_here x xs fails = record { before = []; after = xs; split = refl; all = tt; fails = fails }

  -- this many stand before it
  pub same_before : (xs : List A) (x y : A) (a : IsFirstFailing Holds xs x) (b : IsFirstFailing Holds xs y) → length a.before ≡ length b.before
  same_before xs x y a b =
      let whole : length (a.before ++ x ∷ a.after) ≡ length (b.before ++ y ∷ b.after) = ap length (sym a.split ∙ b.split) in
      let rest : length a.after ≡ length b.after = ap length (one_first xs x y a b).1 in
      let first = length-append a.before (x ∷ a.after) in
      let other = length-append b.before (y ∷ b.after) in
      omega arith
