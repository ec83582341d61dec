-- Steps along rows, of which those without a cell have no runs.
use Rattle.std.proofs.Common.{◌≡◌, ℕ, suc, zero, ◌+◌, ◌<◌, ◌≤◌, ◌++◌, List, [], ◌∷◌, Option, None, get_or, length, refl, sym, ap, ◌∙◌, add-zero, arith}
use Rattle.std.proofs.lemmas.List.{append-nil}
use Rattle.std.proofs.lemmas.List.Concat.{flat_map-append}
use Rattle.std.specs.List.{filter_map, flat_map, range_with_len}
use Rattle.grid_print.specs.CellRuns.{row_runs, run_at}
use Rattle.grid_print.specs.Writing.{Writing}
use Rattle.grid_print.proofs.RunLemmas.{range_push}

-- none of a list, where there is none of each
none_of_each : {X Y : Type 0} (h : X → Option Y) → ((x : X) → h x ≡ None) → (xs : List X) → filter_map h xs ≡ []
none_of_each h none [] = refl
none_of_each h none (x ∷ xs) = rw (none x) (none_of_each h none xs)

-- a row without a cell has no run
pub empty_row : {C : Type 0} (w : Writing C) (row : ℕ) (cells : List (Option C)) → ((col : ℕ) → get_or cells col None ≡ None) → row_runs w row cells ≡ []
unfolding row_runs
empty_row w row cells none = none_of_each (run_at w row cells) (λ col. rw (none col) refl) (range_with_len 0 (length cells))

-- what comes of numbers of which nothing comes
pub nothing_of_each : {X : Type 0} (f : ℕ → List X) (a n : ℕ) → ((k : ℕ) → a ≤ k → k < a + n → f k ≡ []) → flat_map f (range_with_len a n) ≡ []
nothing_of_each f a zero none = refl
nothing_of_each f a (suc n) none = rw (none a (omega arith) (omega arith)) (nothing_of_each f (a + 1) n (λ k from to. none k (omega arith) (omega arith)))

-- one number more
pub one_row_more : {X : Type 0} (f : ℕ → List X) (a n k m : ℕ) → a + n ≡ k → n + 1 ≡ m → flat_map f (range_with_len a n) ++ f k ≡ flat_map f (range_with_len a m)
one_row_more f a n k m is next =
    ap (λ k. flat_map f (range_with_len a n) ++ f k) (sym is) ∙ ap (λ ys. flat_map f (range_with_len a n) ++ ys) (sym (append-nil (f (a + n))))
    ∙ sym (flat_map-append f (range_with_len a n) ((a + n) ∷ [])) ∙ ap (flat_map f) (sym (range_push a n)) ∙ ap (λ m. flat_map f (range_with_len a m)) next

-- and this many more of which nothing comes
pub nothing_more : {X : Type 0} (f : ℕ → List X) (a n m : ℕ) → ((k : ℕ) → a + n ≤ k → f k ≡ []) → flat_map f (range_with_len a n) ≡ flat_map f (range_with_len a (n + m))
nothing_more f a n zero none = rw add-zero refl
nothing_more f a n (suc m) none =
    nothing_more f a n m none ∙ sym (append-nil (flat_map f (range_with_len a (n + m))))
    ∙ ap (λ ys. flat_map f (range_with_len a (n + m)) ++ ys) (sym (none (a + (n + m)) (omega arith)))
    ∙ one_row_more f a (n + m) (a + (n + m)) (n + suc m) refl (omega arith)

-- what comes of what comes of each
pub flat_map_twice : {X Y Z : Type 0} (f : Y → List Z) (g : X → List Y) (xs : List X) → flat_map (λ x. flat_map f (g x)) xs ≡ flat_map f (flat_map g xs)
flat_map_twice f g [] = refl
flat_map_twice f g (x ∷ xs) = ap (λ zs. flat_map f (g x) ++ zs) (flat_map_twice f g xs) ∙ sym (flat_map-append f (g x) (flat_map g xs))
