-- Between crates: the program's answer stands on none of these definitions.
-- What the sources over memory hold: the bytes left, the sizes of their pieces, the calls that fail, and their counts.
use Rattle.std.specs.Prelude.{◌≡◌, ◌↔◌, ℕ, ◌+◌, ◌-◌, ◌%◌, ◌^◌, ◌<◌, max, min, List, [], ◌∷◌, drop, length, slice_index, Contains}
use Rattle.cc_base.specs.declared.memory_source.MemorySource.{MemorySource}
use Rattle.cc_base.specs.declared.memory_source.SteadySource.{SteadySource}
use Rattle.cc_base.specs.declared.streams.Took.{Took}
use Rattle.cc_base.specs.declared.streams.Took.TheVariants.{Failed, Got}

-- the bytes that the source still has
abbrev pub source_left : MemorySource → List ℕ
source_left s = drop s.at s.bytes.items

-- the sizes of the pieces, taken in turn
abbrev pub source_pieces : MemorySource → List ℕ
source_pieces s = s.pieces.items

-- the numbers of the calls that fail
abbrev pub source_failing : MemorySource → List ℕ
source_failing s = s.failing.items

-- the number of the next call
abbrev pub source_calls : MemorySource → ℕ
source_calls s = s.calls

-- how often the source failed
abbrev pub source_faults : MemorySource → ℕ
source_faults s = s.faults

-- the next call fails
abbrev pub FailsNow : MemorySource → Type 0
FailsNow s = (source_calls s < 2 ^ 64 - 1) × Contains (source_failing s) (source_calls s)

-- the most bytes that the call of this number gives
abbrev pub most_at : List ℕ → ℕ → ℕ
most_at [] call = 2 ^ 64 - 1
most_at (size ∷ sizes) call = max (slice_index (size ∷ sizes) (call % length (size ∷ sizes))) 1

-- the most bytes that the next call gives
abbrev pub most_of : MemorySource → ℕ
most_of s = most_at (source_pieces s) (source_calls s)

-- what a take into a buffer of this length does to a source over memory, beside what it does to any source
pub record TakesFromMemory (old new : MemorySource) (answer : Took) (buffer : ℕ) : Type 0 where
  -- it fails exactly where the next call fails
  pub fails : (answer ≡ Failed) ↔ FailsNow old
  -- it gives as many bytes as one call gives, and as are left, and fit
  pub most : (n : ℕ) → answer ≡ Got n → n ≡ min (min (most_of old) (length (source_left old))) buffer
  -- the sizes of the pieces stay
  pub pieces : source_pieces new ≡ source_pieces old
  -- and so do the numbers of the calls that fail
  pub failing : source_failing new ≡ source_failing old
  -- the call is counted
  pub calls : source_calls new ≡ min (source_calls old + 1) (2 ^ 64 - 1)

-- the bytes that a source which never fails still has
abbrev pub steady_left : SteadySource → List ℕ
steady_left s = drop s.at s.bytes.items
