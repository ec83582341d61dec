-- Believed: the program's answer stands on these definitions.
-- The first element of a list of which something doesn't hold: the first field without its form, a cue's former one, the first rule
-- that a cue breaks.
use Rattle.std.specs.Prelude.{◌≡◌, List, ◌++◌, ◌∷◌}
use Rattle.std.specs.List.{AllByRecursion}

-- it stands after elements of which it holds
pub record IsFirstFailing {A : Type 0} (Holds : A → Type 0) (xs : List A) (x : A) : Type 0 where
  pub before : List A
  pub after : List A
  pub split : xs ≡ before ++ x ∷ after
  pub all : AllByRecursion Holds before
  pub fails : Holds x → ⊥
