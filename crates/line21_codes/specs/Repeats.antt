-- Believed in part: the program's answer stands on some of these definitions.
-- Repeats of control pairs: a control pair is sent twice, and a receiver acts on it once
-- (CTA-608-E and 47 CFR 79.101). In each longest stretch of equal control pairs, counted from 0,
-- the pairs with odd numbers are repeats. The pairs before stand newest first.
use Rattle.std.specs.Prelude.{◌≡◌, ℕ, ◌+◌, ◌%◌, ◌==◌, ◌&&◌, Bool, true, false, if◌then◌else◌, List, [], ◌∷◌, Option, Some, None}
use Rattle.line21_codes.specs.declared.pairs.Pair.{Pair}
use Rattle.line21_codes.specs.declared.doubling.Doubler.{Doubler}
use Rattle.line21_codes.specs.ControlPairs.{is_control}

-- the pairs are equal as they stand, with their parity bits
abbrev pub same_pair : Pair → Pair → Bool
same_pair p q = p.a == q.a && p.b == q.b

-- how many pairs equal to the pair stand right before it: its number in its stretch
unfoldable pub number_behind : List Pair → Pair → ℕ
number_behind [] pair = 0
number_behind (q ∷ before) pair = if same_pair q pair then number_behind before pair + 1 else 0

-- the pair is a repeat that is ignored
unfoldable pub is_ignored : List Pair → Pair → Bool
is_ignored before pair = is_control pair && number_behind before pair % 2 == 1

-- the pair is the one that is waited for
abbrev pub is_waiting : Option Pair → Pair → Bool
is_waiting None pair = false
is_waiting (Some q) pair = same_pair q pair

-- after these pairs the object ignores what is to be ignored: whatever pair comes next
pub record Waits (before : List Pair) (doubler : Doubler) : Type 0 where
  pub repeats : (pair : Pair) → is_ignored before pair ≡ is_waiting doubler.waiting pair

-- the pairs are blocks: a control pair stands twice, and another pair alone
pub data Blocks : List Pair → Type 0 where
  none : Blocks []
  doubled : (pair : Pair) (before : List Pair)
      → is_control pair ≡ true → Blocks before → Blocks (pair ∷ pair ∷ before)
  single : (pair : Pair) (before : List Pair)
      → is_control pair ≡ false → Blocks before → Blocks (pair ∷ before)
