-- Between crates: the program's answer stands on none of these definitions.
-- Bytes and ticks that never fill the buffer of a service, of which each byte completes something good.
use Rattle.std.specs.Prelude.{List, []}
use Rattle.dtvcc_screen.specs.Meaning.{Event, start}
use Rattle.services_shown.specs.Filling.{AllFill}
use Rattle.rate_convert.specs.GoodStreams.{IsGoodStream}
use Rattle.rate_convert.specs.HalvedServices.{AreGood}

-- they are good for the service: what a byte completes rests on the bytes before it alone
abbrev pub StreamsAreGood : Type 0
StreamsAreGood = (events : List Event) → IsGoodStream [] events → AllFill 127 start events → AreGood start events
