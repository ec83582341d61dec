-- Believed in part: the program's answer stands on some of these definitions.
-- Timelines: what begins at each slot of a field, and the pair that the slot has by that (CTA-608-E, 47 CFR 79.101).
use Rattle.std.specs.Prelude.{◌≡◌, ℕ, List, [], ◌∷◌, ◌++◌, Option, Some, None, if◌then◌else◌, unwrap_or, suc, zero}
use Rattle.std.specs.Option.{option_map, option_or}
use Rattle.line21_codes.specs.declared.pairs.Pair.{Pair}
use Rattle.line21_codes.specs.NullPairs.{null_pair}
use Rattle.line21_author.specs.declared.unit.Unit.{Unit}

-- what begins at each slot
abbrev pub Timeline : Type 0
Timeline = ℕ → Option Unit

-- what begins at a slot in either timeline; where something does in both, the first one's
abbrev pub over : Timeline → Timeline → Timeline
over first second n = option_or (first n) (second n)

-- the pair that is due once more after the slot in which a unit began
abbrev pub repeat_of : Option Unit → Option Pair
repeat_of None = None
repeat_of (Some unit) = if unit.doubled then Some unit.pair else None

-- the pair that is due in a slot as the repeat of a doubled unit that began one slot earlier
abbrev pub repeat_at : Timeline → ℕ → Option Pair
repeat_at timeline zero = None
repeat_at timeline (suc n) = repeat_of (timeline n)

-- the pair in a slot: the repeat that is due, else what begins there, else the null pair
abbrev pub slot : Timeline → ℕ → Pair
slot timeline n = unwrap_or (option_or (repeat_at timeline n) (option_map (λ unit. unit.pair) (timeline n))) null_pair

-- nothing begins in a repeat
abbrev pub IsSpaced : Timeline → Type 0
IsSpaced timeline = (n : ℕ) (pair : Pair) → repeat_of (timeline n) ≡ Some pair → timeline (suc n) ≡ None

-- the pairs of the slots below n
abbrev pub column : Timeline → ℕ → List Pair
column timeline zero = []
column timeline (suc n) = column timeline n ++ slot timeline n ∷ []
