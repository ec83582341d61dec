-- Between crates: the program's answer stands on none of these definitions.
-- The front of a placement: what stands below a horizon. Two lanes that allow the same below it put the same units there.
use Rattle.std.specs.Prelude.{ℕ, ◌<◌, ◌≤◌, ◌↔◌, List, [], ◌∷◌, ◌++◌, nat_lt}
use Rattle.std.specs.List.{AllByRecursion, filter}
use Rattle.lanes.specs.OneMore.{FitsEarlier}

-- the units that stand below the horizon, with their places
abbrev pub below : {U : Type 0} → ℕ → List (U × ℕ) → List (U × ℕ)
below {U} horizon placed = filter (λ (each : U × ℕ). nat_lt each.1 horizon) placed

-- the lane lets no unit stand before the one in front of it
abbrev pub AreInOrder : {U : Type 0} → (List (U × ℕ) → U → ℕ → Type 0) → Type 0
AreInOrder {U} allowed = (before : List (U × ℕ)) (u : U) (f : ℕ) (v : U) (g : ℕ) → allowed (before ++ (u, f) ∷ []) v g → f ≤ g

-- below the horizon both lanes allow a unit the same places, after the same units
abbrev pub AgreeBelow : {U : Type 0} → ℕ → (List (U × ℕ) → U → ℕ → Type 0) → (List (U × ℕ) → U → ℕ → Type 0) → Type 0
AgreeBelow {U} horizon first second = (before : List (U × ℕ)) (u : U) (f : ℕ) → f < horizon → (first before u f ↔ second before u f)

-- the lane allows these units no place below the horizon
abbrev pub AreAllowedFrom : {U : Type 0} → ℕ → (List (U × ℕ) → U → ℕ → Type 0) → List U → Type 0
AreAllowedFrom {U} horizon allowed us = AllByRecursion (λ (u : U). (before : List (U × ℕ)) (f : ℕ) → allowed before u f → horizon ≤ f) us

-- what two lanes owe for one front
pub record AreAlikeBelow {U : Type 0} (horizon : ℕ) (first second : List (U × ℕ) → U → ℕ → Type 0) : Type 0 where
  pub agree : AgreeBelow horizon first second
  pub first_in_order : AreInOrder first
  pub second_in_order : AreInOrder second
  pub first_fits : FitsEarlier first
  pub second_fits : FitsEarlier second
