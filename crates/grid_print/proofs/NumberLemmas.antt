-- What comes of numbers that follow each other.
use Rattle.std.proofs.Common.{◌≡◌, ◌<◌, ◌≤◌, ◌+◌, ◌++◌, ◌||◌, ◌∙◌, ℕ, zero, suc, Bool, true, false, List, [], ◌∷◌, refl, sym, ap, arith, zero-add, append-nil}
use Rattle.std.proofs.lemmas.List.Concat.{flat_map-append}
use Rattle.std.proofs.lemmas.List.Folds.{list_any-append}
use Rattle.std.specs.List.{flat_map, list_any, range_with_len}
use Rattle.grid_print.proofs.RunLemmas.{range_push}

-- one number more
pub texts_more : {X : Type 0} (f : ℕ → List X) (n : ℕ) → flat_map f (range_with_len 0 n) ++ f n ≡ flat_map f (range_with_len 0 (n + 1))
texts_more f n =
    ap (λ k. flat_map f (range_with_len 0 n) ++ f k) (sym (zero-add n)) ∙ ap (λ ys. flat_map f (range_with_len 0 n) ++ ys) (sym (append-nil (f (0 + n))))
    ∙ sym (flat_map-append f (range_with_len 0 n) ((0 + n) ∷ [])) ∙ ap (flat_map f) (sym (range_push 0 n))

or-false : (b : Bool) → (b || false) ≡ b
or-false true = refl
or-false false = refl

pub any_more : (test : ℕ → Bool) (n : ℕ) → (list_any test (range_with_len 0 n) || test n) ≡ list_any test (range_with_len 0 (n + 1))
any_more test n =
    ap (λ b. list_any test (range_with_len 0 n) || b) (ap test (sym (zero-add n)) ∙ sym (or-false (test (0 + n))))
    ∙ sym (list_any-append test (range_with_len 0 n) ((0 + n) ∷ [])) ∙ ap (list_any test) (sym (range_push 0 n))

-- the same of each
pub texts_same : {X : Type 0} (f g : ℕ → List X) (a n : ℕ) → ((k : ℕ) → a ≤ k → k < a + n → f k ≡ g k) → flat_map f (range_with_len a n) ≡ flat_map g (range_with_len a n)
texts_same f g a zero same = refl
texts_same f g a (suc n) same =
    ap (λ ys. ys ++ flat_map f (range_with_len (a + 1) n)) (same a (omega arith) (omega arith))
    ∙ ap (λ ys. g a ++ ys) (texts_same f g (a + 1) n (λ k from to. same k (omega arith) (omega arith)))

pub any_same : (f g : ℕ → Bool) (a n : ℕ) → ((k : ℕ) → a ≤ k → k < a + n → f k ≡ g k) → list_any f (range_with_len a n) ≡ list_any g (range_with_len a n)
any_same f g a zero same = refl
any_same f g a (suc n) same =
    ap (λ b. b || list_any f (range_with_len (a + 1) n)) (same a (omega arith) (omega arith))
    ∙ ap (λ b. g a || b) (any_same f g (a + 1) n (λ k from to. same k (omega arith) (omega arith)))

pub any_none : (a n : ℕ) → list_any (λ (k : ℕ). false) (range_with_len a n) ≡ false
any_none a zero = refl
any_none a (suc n) = any_none (a + 1) n

-- numbers counted from the one after
pub texts_shift : {X : Type 0} (f : ℕ → List X) (a n : ℕ) → flat_map (λ k. f (k + 1)) (range_with_len a n) ≡ flat_map f (range_with_len (a + 1) n)
texts_shift f a zero = refl
texts_shift f a (suc n) = ap (λ ys. f (a + 1) ++ ys) (texts_shift f (a + 1) n)

pub any_shift : (f : ℕ → Bool) (a n : ℕ) → list_any (λ k. f (k + 1)) (range_with_len a n) ≡ list_any f (range_with_len (a + 1) n)
any_shift f a zero = refl
any_shift f a (suc n) = ap (λ b. f (a + 1) || b) (any_shift f (a + 1) n)
