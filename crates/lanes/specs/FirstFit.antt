-- Between crates: the program's answer stands on none of these definitions.
-- First fit: each unit in turn in the first slot that the lane allows after the units before it.
use Rattle.std.specs.Prelude.{ℕ, ◌≤◌, ◌↔◌, List, [], ◌∷◌, ◌++◌, ⊤}
use Rattle.lanes.specs.Placing.{IsEarliest}

-- the least number of which a sentence holds
pub record IsFirst (P : ℕ → Type 0) (n : ℕ) : Type 0 where
  pub holds : P n
  pub first : (other : ℕ) → P other → n ≤ other

-- each unit stands in the first slot that is allowed after the units before it
abbrev pub IsFirstFit : {U : Type 0} → (List (U × ℕ) → U → ℕ → Type 0) → List (U × ℕ) → List U → List ℕ → Type 0
IsFirstFit allowed before [] [] = ⊤
IsFirstFit allowed before [] (f ∷ fs) = ⊥
IsFirstFit allowed before (u ∷ us) [] = ⊥
IsFirstFit allowed before (u ∷ us) (f ∷ fs) =
    IsFirst (allowed before u) f × IsFirstFit allowed (before ++ (u, f) ∷ []) us fs

-- the earliest placement of a lane's units, if there is one, is the first fit
abbrev pub EarliestIsFirstFit : {U : Type 0} → (List (U × ℕ) → U → ℕ → Type 0) → Type 0
EarliestIsFirstFit {U} allowed = (us : List U) (fs : List ℕ) → (IsEarliest allowed us fs ↔ IsFirstFit allowed [] us fs)
