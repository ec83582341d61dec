-- Between crates: the program's answer stands on none of these definitions.
-- What a sink over memory holds: the bytes written, its room, the puts that fail, and their counts.
use Rattle.std.specs.Prelude.{◌≡◌, ◌↔◌, ℕ, ◌+◌, ◌-◌, ◌^◌, ◌<◌, ◌⊎◌, ◌==◌, min, List, Contains, if◌then◌else◌}
use Rattle.std.specs.Prelude.{length}
use Rattle.cc_base.specs.declared.memory_sink.MemorySink.{MemorySink}
use Rattle.cc_base.specs.declared.streams.Put.{Put}
use Rattle.cc_base.specs.declared.streams.Put.TheVariants as put

-- the bytes written so far
abbrev pub sink_written : MemorySink → List ℕ
sink_written s = s.bytes.items

-- the most bytes that it takes
abbrev pub sink_room : MemorySink → ℕ
sink_room s = s.room

-- the numbers of the puts that fail
abbrev pub sink_failing : MemorySink → List ℕ
sink_failing s = s.failing.items

-- the number of the next put of a piece that isn't empty
abbrev pub sink_puts : MemorySink → ℕ
sink_puts s = s.puts

-- how often the sink failed
abbrev pub sink_faults : MemorySink → ℕ
sink_faults s = s.faults

-- a put of a piece of n bytes fails now
abbrev pub RefusesNow : MemorySink → ℕ → Type 0
RefusesNow s n = (0 < n) × (((sink_puts s < 2 ^ 64 - 1) × Contains (sink_failing s) (sink_puts s)) ⊎ (sink_room s < length (sink_written s) + n))

-- the number of the next put, after a put of a piece of n bytes
abbrev pub puts_after : ℕ → ℕ → ℕ
puts_after puts n = if n == 0 then puts else min (puts + 1) (2 ^ 64 - 1)

-- what a put of a piece of n bytes does to a sink over memory, beside what it does to any sink
pub record PutsInMemory (old new : MemorySink) (answer : Put) (n : ℕ) : Type 0 where
  -- it fails exactly where a put of this many bytes fails now
  pub fails : (answer ≡ put.Failed) ↔ RefusesNow old n
  -- and then nothing is written
  pub nothing : answer ≡ put.Failed → sink_written new ≡ sink_written old
  -- the room stays
  pub room : sink_room new ≡ sink_room old
  -- and so do the numbers of the puts that fail
  pub failing : sink_failing new ≡ sink_failing old
  -- the put is counted, unless its piece is empty
  pub puts : sink_puts new ≡ puts_after (sink_puts old) n
