-- A place of a list is written.
use Rattle.std.proofs.Common.{◌≡◌, ℕ, ◌<◌, List, [], ◌∷◌, Some, length, refl, ap, arith, zero, suc}
use Rattle.std.proofs.Math.ListN.{set}
use Rattle.std.specs.List.{slice_get}

pub set_same : {A : Type 0} (items : List A) (place : ℕ) (item : A) → place < length items → slice_get (set items place item) place ≡ Some item
set_same [] place item within = absurd (omega arith)
set_same (x ∷ xs) zero item within = refl
set_same (x ∷ xs) (suc place) item within = set_same xs place item (omega arith)

pub set_other : {A : Type 0} (items : List A) (place : ℕ) (item : A) (i : ℕ) → (i ≡ place → ⊥) → slice_get (set items place item) i ≡ slice_get items i
set_other [] place item i other = refl
set_other (x ∷ xs) zero item zero other = absurd (other refl)
set_other (x ∷ xs) zero item (suc i) other = refl
set_other (x ∷ xs) (suc place) item zero other = refl
set_other (x ∷ xs) (suc place) item (suc i) other = set_other xs place item i (λ same. other (ap suc same))

pub set_count : {A : Type 0} (items : List A) (place : ℕ) (item : A) → length (set items place item) ≡ length items
set_count [] place item = refl
set_count (x ∷ xs) zero item = refl
set_count (x ∷ xs) (suc place) item = ap suc (set_count xs place item)

-- there is something at each place of a list
pub some_at : {A : Type 0} (items : List A) (place : ℕ) → place < length items → (item : A) × (slice_get items place ≡ Some item)
some_at [] place within = absurd (omega (arith, within))
some_at (x ∷ xs) zero within = (x, refl)
some_at (x ∷ xs) (suc place) within = some_at xs place (omega (arith, within))
