-- Between crates: the program's answer stands on none of these definitions.
-- The law of one more unit: where the units of a list have an earliest placement, the list with one more unit has
-- a placement exactly where some frame is allowed for that unit after this earliest placement; the earliest one
-- then puts the unit in the first such frame, and leaves the others where they are.
use Rattle.std.specs.Prelude.{◌≡◌, ℕ, ◌≤◌, List, [], ◌∷◌, ◌++◌}
use Rattle.std.specs.List.{zip}
use Rattle.lanes.specs.Placing.{IsPlaced, IsEarliest, NoLater, HasPlacement}

-- what a lane owes for the law: what is allowed after units that stand later is allowed after them also where they stand earlier
abbrev pub FitsEarlier : {U : Type 0} → (List (U × ℕ) → U → ℕ → Type 0) → Type 0
FitsEarlier {U} allowed = (us : List U) (fs gs : List ℕ) (u : U) (g : ℕ) → IsPlaced allowed [] us fs → IsPlaced allowed [] us gs
    → NoLater fs gs → allowed (zip us gs) u g → allowed (zip us fs) u g

-- the law for the units us, whose earliest placement is fs, and one more unit u
pub record OneMore {U : Type 0} (allowed : List (U × ℕ) → U → ℕ → Type 0) (us : List U) (fs : List ℕ) (u : U) : Type 0 where
  pub none : ((f : ℕ) → allowed (zip us fs) u f → ⊥) → HasPlacement allowed (us ++ u ∷ []) → ⊥
  pub some : (f : ℕ) → allowed (zip us fs) u f → IsPlaced allowed [] (us ++ u ∷ []) (fs ++ f ∷ [])
  pub first : (f : ℕ) → allowed (zip us fs) u f → ((g : ℕ) → allowed (zip us fs) u g → f ≤ g)
      → IsEarliest allowed (us ++ u ∷ []) (fs ++ f ∷ [])
  pub only : (hs : List ℕ) → IsEarliest allowed (us ++ u ∷ []) hs → (f : ℕ) × (hs ≡ fs ++ f ∷ []) × allowed (zip us fs) u f
