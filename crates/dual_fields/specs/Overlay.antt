-- Between crates: the program's answer stands on none of these definitions.
-- The pair of a slot that two lanes share: the first lane's pair, and where it is null the second's.
use Rattle.std.specs.Prelude.{◌≡◌, ℕ, suc, false, if◌then◌else◌, Some, None}
use Rattle.line21_codes.specs.declared.pairs.Pair.{Pair}
use Rattle.line21_codes.specs.NullPairs.{is_null}
use Rattle.line21_author.specs.declared.unit.Unit.{Unit}
use Rattle.lanes.specs.Timeline.{Timeline, over, repeat_of, slot}

-- the first pair, and where it is null the second
abbrev pub overlay : Pair → Pair → Pair
overlay first second = if is_null first then second else first

-- neither has anything in the slots of the other, and no unit is the null pair
pub record AreDisjoint (one two : Timeline) : Type 0 where
  pub apart : (n : ℕ) (unit : Unit) → one n ≡ Some unit → two n ≡ None
  pub behind_first : (n : ℕ) (pair : Pair) → repeat_of (one n) ≡ Some pair → two (suc n) ≡ None
  pub behind_second : (n : ℕ) (pair : Pair) → repeat_of (two n) ≡ Some pair → one (suc n) ≡ None
  pub some : (n : ℕ) (unit : Unit) → one n ≡ Some unit → is_null unit.pair ≡ false

-- so their timeline's slots are overlaid
abbrev pub SlotsAreOverlaid : Type 0
SlotsAreOverlaid = (one two : Timeline) → AreDisjoint one two → (n : ℕ) → slot (over one two) n ≡ overlay (slot one n) (slot two n)
