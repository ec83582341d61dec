-- Believed: the program's answer stands on these definitions.
-- Doubled control pairs: in a field every longest stretch of equal control pairs in neighbouring slots has an
-- even number of pairs (CTA-608-E, 47 CFR 79.101).
use Rattle.std.specs.Prelude.{◌≡◌, ℕ, ◌%◌, List, [], ◌∷◌, ◌++◌, IsTrue, replicate}
use Rattle.line21_codes.specs.declared.pairs.Pair.{Pair}
use Rattle.line21_codes.specs.ControlPairs.{is_control}

-- the pair is the last of the list
abbrev pub EndsWith : List Pair → Pair → Type 0
EndsWith pairs pair = (before : List Pair) × (pairs ≡ before ++ pair ∷ [])

-- the pair is the first of the list
abbrev pub BeginsWith : List Pair → Pair → Type 0
BeginsWith pairs pair = (after : List Pair) × (pairs ≡ pair ∷ after)

-- n equal pairs stand in the column between `before` and `after`, and their stretch is no longer than that
pub record IsStretch (column before after : List Pair) (pair : Pair) (n : ℕ) : Type 0 where
  pub splits : column ≡ before ++ replicate n pair ++ after
  pub begins : EndsWith before pair → ⊥
  pub ends : BeginsWith after pair → ⊥

-- every longest stretch of equal control pairs has an even number of pairs
abbrev pub IsDoubled : List Pair → Type 0
IsDoubled column = (before after : List Pair) (pair : Pair) (n : ℕ)
    → IsTrue (is_control pair) → IsStretch column before after pair n → n % 2 ≡ 0
