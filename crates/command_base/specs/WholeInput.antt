-- Believed in part: the program's answer stands on some of these definitions.
-- Commands that read their input to its end and judge it before they put anything: how bytes are judged, and how an input is read.
use Rattle.std.specs.Prelude.{◌≡◌, ◌<◌, ℕ, List, [], length, IfSome, Option, Some, Result, Ok, Err, ⊤}
use Rattle.cc_base.specs.Streams.{Rose, TakesWithin, whole_limit}
use Rattle.cc_base.specs.declared.limit_of.LimitOf.TheVariants as limit
use Rattle.command_base.specs.declared.status.Status.{Status}
use Rattle.command_base.specs.declared.status.Status.TheVariants as status

-- nothing is left of an input that tells what it has left
abbrev pub IsReadToEnd : Option (List ℕ) → Option (List ℕ) → Type 0
IsReadToEnd old new = IfSome old (λ bytes. new ≡ Some [])

-- bytes are judged to be this value, or refused
abbrev pub JudgesInput : {A : Type 0} → (List ℕ → A → Type 0) → (List ℕ → Status → Type 0) → List ℕ → Result A Status → Type 0
JudgesInput Is Refused bytes (Ok value) = Is bytes value
JudgesInput Is Refused bytes (Err status.Memory) = ⊤
JudgesInput Is Refused bytes (Err refusal) = Refused bytes refusal

-- an input is read to its end and its bytes are this value, or they are refused
abbrev pub ReadsInput : {A : Type 0} → (List ℕ → A → Type 0) → (List ℕ → Status → Type 0) → Option (List ℕ) → Option (List ℕ) → ℕ → ℕ → Result A Status → Type 0
ReadsInput Is Refused old new before now (Ok value) = (now ≡ before) × IsReadToEnd old new × IfSome old (λ bytes. Is bytes value)
ReadsInput Is Refused old new before now (Err status.Ok) = ⊥
ReadsInput Is Refused old new before now (Err status.Usage) = ⊥
ReadsInput Is Refused old new before now (Err status.WriteFault) = ⊥
ReadsInput Is Refused old new before now (Err status.ReadFault) = Rose before now × TakesWithin whole_limit old new
ReadsInput Is Refused old new before now (Err status.Memory) = now ≡ before
ReadsInput Is Refused old new before now (Err refusal) = (now ≡ before) × IfSome old (λ bytes. Refused bytes refusal)

-- the bytes are too many, and that is the answer
abbrev pub IsTooLong : List ℕ → Status → Type 0
IsTooLong bytes answer = (answer ≡ status.Limit limit.Bytes) × (whole_limit < length bytes)

-- a status with which bytes can be refused
abbrev pub IsRefusal : Status → Type 0
IsRefusal status.Ok = ⊥
IsRefusal status.Usage = ⊥
IsRefusal status.ReadFault = ⊥
IsRefusal status.WriteFault = ⊥
IsRefusal _ = ⊤
