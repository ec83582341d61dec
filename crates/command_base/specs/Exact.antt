-- Between crates: the program's answer stands on none of these definitions.
-- Of bytes a command makes one status, and a run in which no count of faults rose answers it, or Memory.
use Rattle.std.specs.Prelude.{◌≡◌, ◌<◌, ◌⊎◌, ℕ, List}
use Rattle.std.specs.List.{All}
use Rattle.std.specs.Io.KnownBytes.{Keeps}
use Rattle.command_base.specs.Counts.{IsReadOf, IsSideOf}
use Rattle.command_base.specs.Ends.{Ends}
use Rattle.command_base.specs.Realises.{PutsSaid, Realises, Verdict}
use Rattle.command_base.specs.SideEnds.{SideEnds}
use Rattle.command_base.specs.declared.status.Status.{Status}
use Rattle.command_base.specs.declared.status.Status.TheVariants as status

-- a read or a put failed
abbrev pub IsFault : Status → Type 0
IsFault status.ReadFault = Unit {0}
IsFault status.WriteFault = Unit {0}
IsFault _ = ⊥

-- out of memory, nothing was put; or what the command makes of the bytes was
abbrev pub IsAnswered : Verdict → List ℕ → List ℕ → Ends → Ends → Status → Type 0
IsAnswered Says aside input old new answer =
    ((answer ≡ status.Memory) × Keeps old.written new.written) ⊎ ((IsFault answer → ⊥) × PutsSaid Says aside input old new answer)

-- a command makes one status of bytes, but for faults
abbrev pub IsOne : Verdict → Type 0
IsOne Says = (aside input : List ℕ) (one other : Status) (text more : List ℕ) → (IsFault one → ⊥) → (IsFault other → ⊥)
    → Says aside input one text → Says aside input other more → one ≡ other

-- a run answers that and puts its text, or Memory and puts nothing
abbrev pub IsExact : Verdict → Type 0
IsExact Says = (aside input : List ℕ) (verdict : Status) (text : List ℕ) (side later : SideEnds) (old new : Ends) (answer : Status)
    → (IsFault verdict → ⊥) → Says aside input verdict text → IsSideOf aside side later → IsReadOf input old new
    → Realises Says side later old new answer
    → ((answer ≡ status.Memory) × Keeps old.written new.written) ⊎ ((answer ≡ verdict) × PutsSaid Says aside input old new verdict)

-- of every side file and all bytes a command makes something, but for faults
abbrev pub HasVerdict : Verdict → Type 0
HasVerdict Says = (aside input : List ℕ) → All (λ byte. byte < 256) input
    → (answer : Status) × (text : List ℕ) × (IsFault answer → ⊥) × Says aside input answer text
