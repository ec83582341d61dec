-- Between crates: the program's answer stands on none of these definitions.
-- The front of the units placed so far in a field's lane.
use Rattle.std.specs.Prelude.{ℕ, ◌+◌, ◌<◌, ◌≤◌, List, take, length}
use Rattle.line21_author.specs.declared.event.Event.{Event}
use Rattle.lanes.specs.declared.field_front.Front.{Front}
use Rattle.lanes.specs.LaneEvents.{IsFree, AreOver}

-- the events that the front has passed are over by its end
pub record IsFrontOfEvents (events : List Event) (front : Front) : Type 0 where
  pub within : front.passed ≤ length events
  pub passed : AreOver front.end (take front.passed events)

-- this many slots from the slot on are free
abbrev pub AreFree : List Event → ℕ → ℕ → Type 0
AreFree events slots slot = (n : ℕ) → slot ≤ n → n < slot + slots → IsFree events n

-- the first slot, from `start` on, from which on this many slots are free
pub record IsFirstFree (events : List Event) (slots start slot : ℕ) : Type 0 where
  pub behind : start ≤ slot
  pub free : AreFree events slots slot
  pub first : (other : ℕ) → start ≤ other → AreFree events slots other → slot ≤ other
