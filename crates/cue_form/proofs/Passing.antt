-- Tests that were passed.
use Rattle.std.proofs.Common.{◌≡◌, Bool, true, false, not, ◌&&◌, ◌||◌, ◌⊎◌, Option, Some, None, Result, Ok, Err, refl, inl, inr}

-- a test that can't have failed
pub passed : (b : Bool) → (b ≡ false → ⊥) → b ≡ true
passed true failed = refl
passed false failed = absurd (failed refl)

-- a test that can't have been passed
pub denied : (b : Bool) → (b ≡ true → ⊥) → b ≡ false
denied true failed = absurd (failed refl)
denied false failed = refl

-- a value that can't be missing
pub some_of : {A : Type 0} (o : Option A) → (o ≡ None → ⊥) → (x : A) × (o ≡ Some x)
some_of (Some x) missing = (x, refl)
some_of None missing = absurd (missing refl)

-- the same, for what follows from it
pub with_value : {A : Type 0} (P : Type 0) (o : Option A) → (o ≡ None → ⊥) → ((x : A) → o ≡ Some x → P) → P
with_value P (Some x) missing rest = rest x refl
with_value P None missing rest = absurd (missing refl)

-- a part that can't have failed
pub with_part : {A E : Type 0} (P : Type 0) (r : Result A E) → ((error : E) → r ≡ Err error → ⊥) → ((x : A) → r ≡ Ok x → P) → P
with_part P (Ok x) failed rest = rest x refl
with_part P (Err error) failed rest = absurd (failed error refl)

-- two tests in one
pub both_of : (a b : Bool) → (a && b) ≡ true → (a ≡ true) × (b ≡ true)
both_of true b e = (refl, e)
both_of false b e = cc

-- one test or another
pub either_of : (a b : Bool) → (a || b) ≡ true → (a ≡ true) ⊎ (b ≡ true)
either_of true b e = inl refl
either_of false b e = inr e

-- a test that was denied
pub not_of : (b : Bool) → not b ≡ true → b ≡ false
not_of true e = cc
not_of false e = refl

-- by cases on a test, a value and a part
pub on_test : (P : Type 0) (b : Bool) → (b ≡ false → P) → (b ≡ true → P) → P
on_test P true failed held = held refl
on_test P false failed held = failed refl

pub on_value : {A : Type 0} (P : Type 0) (o : Option A) → (o ≡ None → P) → ((x : A) → o ≡ Some x → P) → P
on_value P None none some = none refl
on_value P (Some x) none some = some x refl

pub on_part : {A E : Type 0} (P : Type 0) (r : Result A E) → ((error : E) → r ≡ Err error → P) → ((x : A) → r ≡ Ok x → P) → P
on_part P (Err error) failed held = failed error refl
on_part P (Ok x) failed held = held x refl
