-- Cells that are told one after another.
use Rattle.std.proofs.Common.{◌≡◌, ◌+◌, ◌<◌, ◌∙◌, ℕ, zero, suc, List, [], ◌∷◌, ap, arith, below_more, drop, length, refl, set, sym}
use Rattle.std.specs.Prelude.{Some, slice_get}
use Rattle.std.proofs.lemmas.List.{drop-drop, drop-set-lt}
use Rattle.ccsuite_c.specs.Grids.{HoldsCells}

-- an element below one that is written stays
get_below : {A : Type 0} (xs : List A) (i k : ℕ) (x : A) → k < i → slice_get (set xs i x) k ≡ slice_get xs k
get_below [] zero k x less = refl
get_below [] (suc i) k x less = refl
get_below (y ∷ ys) zero k x less = absurd (omega (arith, less))
get_below (y ∷ ys) (suc i) zero x less = refl
get_below (y ∷ ys) (suc i) (suc k) x less = get_below ys i k x (omega (arith, less))

-- and that one is there
get_there : {A : Type 0} (xs : List A) (i : ℕ) (x : A) → i < length xs → slice_get (set xs i x) i ≡ Some x
get_there [] i x within = absurd (omega (arith, within))
get_there (y ∷ ys) zero x within = refl
get_there (y ∷ ys) (suc i) x within = get_there ys i x (omega (arith, within))

-- no cell is told yet
pub holds_none : {A : Type 0} (cell_at : ℕ → A) (cells : List A) → HoldsCells 0 cell_at cells cells
holds_none cell_at cells = record { fits = omega arith; cells = λ place below. absurd (omega (arith, below)); others = refl }

-- one more is
pub holds_next : {A : Type 0} (count : ℕ) (cell_at : ℕ → A) (before after : List A) (cell : A)
    → HoldsCells count cell_at before after → count < length before → length after ≡ length before → cell ≡ cell_at count
    → HoldsCells (count + 1) cell_at before (set after count cell)
holds_next count cell_at before after cell holds room same is = record {
  fits = omega (arith, room);
  cells = below_more (λ place. slice_get (set after count cell) place ≡ Some (cell_at place)) count
      (λ place below. get_below after count place cell below ∙ holds.cells place below)
      (get_there after count cell (omega (arith, room, same)) ∙ ap Some is);
  others = drop-set-lt (count + 1) after count cell (omega arith)
      ∙ (sym (drop-drop 1 count after) ∙ ap (drop 1) holds.others ∙ drop-drop 1 count before);
}
