-- Believed in part: the program's answer stands on some of these definitions.
-- What a take and a put do to the bytes that a source has left and a sink has written, where these are known, and to the
-- counts of their faults.
use Rattle.std.specs.Prelude.{◌≡◌, ℕ, ◌+◌, ◌-◌, ◌^◌, ◌≤◌, min, List, length, take, Option, IfSome}
use Rattle.std.specs.Io.KnownBytes.{Appends, Consumes, IsAtEnd, Keeps}
use Rattle.cc_base.specs.declared.streams.Put.{Put}
use Rattle.cc_base.specs.declared.streams.Put.TheVariants as put
use Rattle.cc_base.specs.declared.streams.Took.{Took}
use Rattle.cc_base.specs.declared.streams.Took.TheVariants.{Got, End, Failed}

-- a count of faults rose: it is greater than before, or stands at the last value of a 64-bit counter
abbrev pub Rose : ℕ → ℕ → Type 0
Rose before now = min (before + 1) (2 ^ 64 - 1) ≤ now

-- a take gave the first n bytes that were left, or met their end, or gave none
abbrev pub Takes : Option (List ℕ) → Option (List ℕ) → Took → List ℕ → Type 0
Takes old new (Got n) buf = (1 ≤ n) × (n ≤ length buf) × Consumes old new (take n buf)
Takes old new End buf = IsAtEnd old × Keeps old new
Takes old new Failed buf = Keeps old new

-- a take fails only where the count of faults rose, and else leaves it
abbrev pub TakeCause : ℕ → ℕ → Took → Type 0
TakeCause before now (Got n) = now ≡ before
TakeCause before now End = now ≡ before
TakeCause before now Failed = (before ≤ now) × Rose before now

-- a put wrote the piece, or a front of it
abbrev pub Puts : Option (List ℕ) → Option (List ℕ) → Put → List ℕ → Type 0
Puts old new put.Done piece = Appends old new piece
Puts old new put.Failed piece = (n : ℕ) × (n ≤ length piece) × Appends old new (take n piece)

-- a put fails only where the count of faults rose, and else leaves it
abbrev pub PutCause : ℕ → ℕ → Put → Type 0
PutCause before now put.Done = now ≡ before
PutCause before now put.Failed = (before ≤ now) × Rose before now

-- a put of an empty piece is done, and changes nothing
abbrev pub PutsEmpty : Option (List ℕ) → Option (List ℕ) → Put → List ℕ → Type 0
PutsEmpty old new answer piece = length piece ≡ 0 → (answer ≡ put.Done) × Keeps old new

-- at most this many bytes were taken
abbrev pub TakesWithin : ℕ → Option (List ℕ) → Option (List ℕ) → Type 0
TakesWithin limit old new = (taken : List ℕ) × Consumes old new taken × (length taken ≤ limit)

-- the most bytes of an input that is read whole: a cue list or an SCC file
abbrev pub whole_limit : ℕ
whole_limit = 67108864

-- these are all bytes that a source had, taken from it within a limit
pub record IsWhole (limit : ℕ) (old new : Option (List ℕ)) (whole : List ℕ) : Type 0 where
  -- they are what was left, where that is known
  pub bytes : IfSome old (λ left. whole ≡ left)
  -- they were taken
  pub taken : Consumes old new whole
  -- they are no more than the limit allows
  pub within : length whole ≤ limit
