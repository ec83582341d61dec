-- Believed: the library's answers stand on these definitions.
-- What a service makes of its bytes, of the frames in which they come, and of resets from outside.
use Rattle.std.specs.Prelude.{ℕ, ◌+◌, List, [], ◌∷◌}
use Rattle.cc_base.specs.declared.rate.Rate.{Rate}
use Rattle.cc_base.specs.declared.rate.Rate.TheVariants.{F2997}
use Rattle.dtvcc_screen.specs.declared.clock.Clock.{Clock}
use Rattle.dtvcc_screen.specs.Cores.{CoreState, after_byte, after_tick, clean}

-- a frame of a rate begins, a byte comes, or the service is reset
pub data Event : Type 0 where
  Tick : Rate → Event
  Byte : ℕ → Event
  Reset : Event

-- the service and its clock
pub record Served : Type 0 where
  pub clock : Clock
  pub core : CoreState

-- before the first frame; the rate counts only from there on
abbrev pub start : Served
start = record { clock = record { ticks = 0; rate = F2997 }; core = clean }

-- after a reset, whatever the clock has counted by then
abbrev pub cleaned : Clock → Served
cleaned clock = record { clock = clock; core = clean }

-- one frame more, of this rate
abbrev pub ticked : Rate → Clock → Clock
ticked rate clock = record { ticks = clock.ticks + 1; rate = rate }

-- one equation for each event: a frame counts, and ends the delay that is due; a byte comes; a reset leaves the clock as it is
abbrev pub on_event : Event → Served → Served
on_event (Tick rate) s = let clock = ticked rate s.clock in record { clock = clock; core = after_tick clock s.core }
on_event (Byte byte) s = record s { core = after_byte byte s.clock s.core }
on_event Reset s = record s { core = clean }

-- events in order
abbrev pub served_after : Served → List Event → Served
served_after s [] = s
served_after s (event ∷ events) = served_after (on_event event s) events
