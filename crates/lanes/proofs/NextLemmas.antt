-- The element that stands next in a list.
use Rattle.std.proofs.Common.{◌≡◌, ℕ, ◌+◌, ◌<◌, ◌≤◌, List, [], ◌∷◌, ◌++◌, length, get_or, take, drop, sym, ap, ◌∙◌, add-zero, ⊎_elim}
use Rattle.std.proofs.lemmas.Bool.{cases_lt}
use Rattle.std.proofs.lemmas.List.{drop_more, drop_all, take_more, get_or-drop}
use Rattle.lanes.specs.LaneCursor.{IsNext}

-- what is read at a number stands next there
pub next_from_read : {T : Type 0} (xs : List T) (k : ℕ) (x : T) → k < length xs → x ≡ get_or xs k x → IsNext xs k x
next_from_read xs k x h e = record { within = h; splits = drop_more xs k x h ∙ ap (λ y. y ∷ drop (k + 1) xs) (sym e) }

-- one element stands next
pub next_same : {T : Type 0} (xs : List T) (k : ℕ) (x y : T) → IsNext xs k x → IsNext xs k y → x ≡ y
next_same xs k x y a b = let e : x ∷ drop (k + 1) xs ≡ y ∷ drop (k + 1) xs = sym a.splits ∙ b.splits in cc

-- what stands next is read there
next_read : {T : Type 0} (xs : List T) (k : ℕ) (x : T) → drop k xs ≡ x ∷ drop (k + 1) xs → get_or xs k x ≡ x
next_read xs k x e = ap (λ n. get_or xs n x) (sym (add-zero k)) ∙ sym (get_or-drop k xs 0 x) ∙ ap (λ l. get_or l 0 x) e

-- the elements up to the next one
pub next_take : {T : Type 0} (xs : List T) (k : ℕ) (x : T) → IsNext xs k x → take (k + 1) xs ≡ take k xs ++ x ∷ []
next_take xs k x n = take_more xs k x n.within ∙ ap (λ y. take k xs ++ y ∷ []) (next_read xs k x n.splits)

-- the first of what is left stands next
pub next_from_drop : {T : Type 0} (xs : List T) (k : ℕ) (x : T) (rest : List T) → drop k xs ≡ x ∷ rest → IsNext xs k x
next_from_drop {T} xs k x rest e = ⊎_elim within past (cases_lt k (length xs))
  where
    within : k < length xs → IsNext xs k x
    within h =
        let d = drop_more xs k x h in
        let both : x ∷ rest ≡ get_or xs k x ∷ drop (k + 1) xs = sym e ∙ d in
        let same : get_or xs k x ≡ x = cc in
        record { within = h; splits = d ∙ ap (λ y. y ∷ drop (k + 1) xs) same }

    past : length xs ≤ k → IsNext xs k x
    past h = let none : x ∷ rest ≡ [] = sym e ∙ drop_all k xs h in absurd (cc)
