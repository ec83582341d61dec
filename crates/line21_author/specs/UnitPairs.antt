-- Between crates: the program's answer stands on none of these definitions.
-- The pairs of units: both bytes have odd parity, and exactly a control pair is sent twice
-- (CTA-608-E; 47 CFR 79.101).
use Rattle.std.specs.Prelude.{◌≡◌, true}
use Rattle.line21_codes.specs.ControlPairs.{is_control}
use Rattle.line21_codes.specs.Parity.{has_odd_parity}
use Rattle.line21_author.specs.declared.unit.Unit.{Unit}

-- a unit that a field can carry
pub record IsCarried (unit : Unit) : Type 0 where
  pub parity : has_odd_parity unit.pair ≡ true
  pub doubled : is_control unit.pair ≡ unit.doubled
