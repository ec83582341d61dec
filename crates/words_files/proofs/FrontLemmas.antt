-- Two fronts of one list.
use Rattle.std.proofs.Common.{◌≡◌, ◌++◌, ap, refl, subst, List, [], ◌∷◌}

-- the front of a list that ends before an item, and another one: the other has the item, or it ends at the same place, or before
pub data TwoFronts {A : Type 0} (one rest other : List A) (item : A) : Type 0 where
  behind_it : (more : List A) → one ≡ (other ++ item ∷ []) ++ more → TwoFronts one rest other item
  same : one ≡ other → (more : List A) → rest ≡ item ∷ more → TwoFronts one rest other item
  before_it : (next : A) (more left : List A) → other ≡ (one ++ next ∷ []) ++ more → rest ≡ next ∷ left → TwoFronts one rest other item

longer : {A : Type 0} (x : A) (one rest other : List A) (item : A) → TwoFronts one rest other item → TwoFronts (x ∷ one) rest (x ∷ other) item
longer x one rest other item (behind_it more is) = behind_it more (ap (λ l. x ∷ l) is)
longer x one rest other item (same is more left) = same (ap (λ l. x ∷ l) is) more left
longer x one rest other item (before_it next more left is rest_is) = before_it next more left (ap (λ l. x ∷ l) is) rest_is

pub two_fronts : {A : Type 0} (one rest other behind : List A) (item : A) → one ++ rest ≡ (other ++ item ∷ []) ++ behind → TwoFronts one rest other item
two_fronts [] rest [] behind item is = same refl behind is
two_fronts [] rest (x ∷ other) behind item is = before_it x other ((other ++ item ∷ []) ++ behind) refl is
two_fronts (x ∷ one) rest [] behind item is =
    let heads : x ≡ item = cc in
    behind_it one (ap (λ i. i ∷ one) heads)
two_fronts {A} (x ∷ one) rest (y ∷ other) behind item is =
    let heads : x ≡ y = cc in
    let tails : one ++ rest ≡ (other ++ item ∷ []) ++ behind = cc in
    subst (λ z. TwoFronts (x ∷ one) rest (z ∷ other) item) heads (longer x one rest other item (two_fronts one rest other behind item tails))
