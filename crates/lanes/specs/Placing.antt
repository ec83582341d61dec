-- Believed in part: the program's answer stands on some of these definitions.
-- Placements: a frame for each unit of a list, each unit where the lane allows it after the units before it;
-- and the earliest placement, in which no unit stands later than in any other.
use Rattle.std.specs.Prelude.{ℕ, ◌≤◌, List, [], ◌∷◌, ◌++◌, ⊤}

-- the units stand in the frames: each one is allowed in its own, after those before it
abbrev pub IsPlaced : {U : Type 0} → (List (U × ℕ) → U → ℕ → Type 0) → List (U × ℕ) → List U → List ℕ → Type 0
IsPlaced allowed before [] [] = ⊤
IsPlaced allowed before [] (f ∷ fs) = ⊥
IsPlaced allowed before (u ∷ us) [] = ⊥
IsPlaced allowed before (u ∷ us) (f ∷ fs) = allowed before u f × IsPlaced allowed (before ++ (u, f) ∷ []) us fs

-- no frame is later than the other list's
abbrev pub NoLater : List ℕ → List ℕ → Type 0
NoLater [] [] = ⊤
NoLater [] (g ∷ gs) = ⊥
NoLater (f ∷ fs) [] = ⊥
NoLater (f ∷ fs) (g ∷ gs) = (f ≤ g) × NoLater fs gs

-- a placement, and no other placement of the same units has any unit in an earlier frame
pub record IsEarliest {U : Type 0} (allowed : List (U × ℕ) → U → ℕ → Type 0) (us : List U) (fs : List ℕ) : Type 0 where
  pub placed : IsPlaced allowed [] us fs
  pub first : (gs : List ℕ) → IsPlaced allowed [] us gs → NoLater fs gs

-- the units have a placement
abbrev pub HasPlacement : {U : Type 0} → (List (U × ℕ) → U → ℕ → Type 0) → List U → Type 0
HasPlacement allowed us = (fs : List ℕ) × IsPlaced allowed [] us fs

-- the units have an earliest placement
abbrev pub HasEarliest : {U : Type 0} → (List (U × ℕ) → U → ℕ → Type 0) → List U → Type 0
HasEarliest allowed us = (fs : List ℕ) × IsEarliest allowed us fs
