-- Between crates: the program's answer stands on none of these definitions.
-- The pairs of events: control pairs with odd parity (CTA-608-E; 47 CFR 79.101).
use Rattle.std.specs.Prelude.{◌≡◌, true}
use Rattle.line21_codes.specs.ControlPairs.{is_control}
use Rattle.line21_codes.specs.Parity.{has_odd_parity}
use Rattle.line21_author.specs.declared.event.Event.{Event}

-- the event's pair is a control pair
pub record IsControlEvent (event : Event) : Type 0 where
  pub parity : has_odd_parity event.pair ≡ true
  pub control : is_control event.pair ≡ true
