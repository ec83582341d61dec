-- Between crates: the program's answer stands on none of these definitions.
-- What the adapters hold, and what they answer: the reader or writer below, how often it failed, and what a call of it comes to.
use Rattle.std.specs.Prelude.{ℕ, zero, suc, ◌+◌, ◌-◌, ◌^◌, min, Bool, true, false, Option, Some, None}
use Rattle.cc_base.specs.declared.adapters.ReaderSource.{ReaderSource}
use Rattle.cc_base.specs.declared.adapters.WriterSink.{WriterSink}
use Rattle.cc_base.specs.declared.streams.Put.{Put}
use Rattle.cc_base.specs.declared.streams.Put.TheVariants as put
use Rattle.cc_base.specs.declared.streams.Took.{Took}
use Rattle.cc_base.specs.declared.streams.Took.TheVariants as took

-- the reader of a source
abbrev pub reader_of : {R : Type 0} → ReaderSource R → R
reader_of s = s.inner

-- how often the reader failed
abbrev pub reader_faults : {R : Type 0} → ReaderSource R → ℕ
reader_faults s = s.faults

-- the writer of a sink
abbrev pub writer_of : {W : Type 0} → WriterSink W → W
writer_of s = s.inner

-- how often the writer failed
abbrev pub writer_faults : {W : Type 0} → WriterSink W → ℕ
writer_faults s = s.faults

-- a fault more, up to the last value of a 64-bit counter
abbrev pub one_more_fault : ℕ → ℕ
one_more_fault faults = min (faults + 1) (2 ^ 64 - 1)

-- a read that gave this many bytes, or failed: 0 bytes are the end
abbrev pub read_answer : Option ℕ → Took
read_answer None = took.Failed
read_answer (Some zero) = took.End
read_answer (Some (suc n)) = took.Got (suc n)

abbrev pub read_count : Option ℕ → ℕ → ℕ
read_count None faults = one_more_fault faults
read_count (Some n) faults = faults

-- a write that took this many bytes, or failed: one that took 0 bytes is a fault too
abbrev pub write_answer : Option ℕ → Option ℕ
write_answer None = None
write_answer (Some zero) = None
write_answer (Some (suc n)) = Some (suc n)

abbrev pub write_count : Option ℕ → ℕ → ℕ
write_count None faults = one_more_fault faults
write_count (Some zero) faults = one_more_fault faults
write_count (Some (suc n)) faults = faults

-- a flush that went well, or failed
abbrev pub flush_answer : Bool → Put
flush_answer true = put.Done
flush_answer false = put.Failed

abbrev pub flush_count : Bool → ℕ → ℕ
flush_count true faults = faults
flush_count false faults = one_more_fault faults
