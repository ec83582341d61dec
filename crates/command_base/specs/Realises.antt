-- Believed in part: the program's answer stands on some of these definitions.
-- What a command makes of bytes, and how a run of it realises that.
use Rattle.std.specs.Prelude.{◌≡◌, ◌⊎◌, ℕ, List, [], ◌++◌, IfSome, Some}
use Rattle.std.specs.Io.KnownBytes.{Appends}
use Rattle.cc_base.specs.Streams.{Puts, Rose, TakesWithin, whole_limit}
use Rattle.cc_base.specs.declared.streams.Put.TheVariants as put
use Rattle.command_base.specs.Ends.{Ends, PutsNothing}
use Rattle.command_base.specs.SideEnds.{SideEnds, side_ends}
use Rattle.command_base.specs.WholeInput.{IsReadToEnd}
use Rattle.command_base.specs.declared.status.Status.{Status}
use Rattle.command_base.specs.declared.status.Status.TheVariants as status

-- what a command makes of its side file and its input: a status, and the text that is put. With ReadFault, of what was read before a read
-- failed; with WriteFault, a text of which a put may fail
abbrev pub Verdict : Type 1
Verdict = List ℕ → List ℕ → Status → List ℕ → Type 0

-- this holds of the bytes of the side file and of the input, where both are known
abbrev pub OfBytes : SideEnds → Ends → (List ℕ → List ℕ → Type 0) → Type 0
OfBytes side old Holds = IfSome side.left (λ aside. IfSome old.left (λ input. Holds aside input))

-- no count of faults changed
pub record IsFaultless (side later : SideEnds) (old new : Ends) : Type 0 where
  pub aside : later.faults ≡ side.faults
  pub reads : new.read_faults ≡ old.read_faults
  pub writes : new.write_faults ≡ old.write_faults

-- a front of the input was taken, and what stands for it was put
pub record PutsRead (Says : Verdict) (aside input : List ℕ) (old new : Ends) : Type 0 where
  pub read : List ℕ
  pub rest : List ℕ
  pub text : List ℕ
  pub spelled : input ≡ read ++ rest
  pub taken : new.left ≡ Some rest
  pub says : Says aside read status.ReadFault text
  pub output : Appends old.written new.written text

-- the command makes this status of the bytes, and what it makes of them was put
abbrev pub PutsSaid : Verdict → List ℕ → List ℕ → Ends → Ends → Status → Type 0
PutsSaid Says aside input old new answer = (text : List ℕ) × Says aside input answer text × Appends old.written new.written text

-- a run realises what a command makes of bytes. A side file is read to its end first
abbrev pub Realises : Verdict → SideEnds → SideEnds → Ends → Ends → Status → Type 0
Realises Says side later old new status.Ok =
    IsReadToEnd side.left later.left × IsFaultless side later old new
    × OfBytes side old (λ aside input. (new.left ≡ Some []) × PutsSaid Says aside input old new status.Ok)
Realises Says side later old new status.Usage = ⊥
Realises Says side later old new status.ReadFault =
    (Rose side.faults later.faults × TakesWithin whole_limit side.left later.left × (new ≡ old))
    ⊎ ((later.faults ≡ side.faults) × Rose old.read_faults new.read_faults × (new.write_faults ≡ old.write_faults)
    × OfBytes side old (λ aside input. PutsRead Says aside input old new))
Realises Says side later old new status.WriteFault =
    (later.faults ≡ side.faults) × (new.read_faults ≡ old.read_faults) × Rose old.write_faults new.write_faults
    × OfBytes side old (λ aside input. (text : List ℕ) × Says aside input status.WriteFault text × Puts old.written new.written put.Failed text)
Realises Says side later old new status.Memory =
    (later.faults ≡ side.faults) × (new.read_faults ≡ old.read_faults) × PutsNothing old new
Realises Says side later old new answer =
    IsFaultless side later old new × OfBytes side old (λ aside input. PutsSaid Says aside input old new answer)

-- an empty side file that is left: a command without a side file runs as with this one
abbrev pub no_side : SideEnds
no_side = side_ends (Some []) 0

-- a run of a command without a side file realises what the command makes of the input alone
abbrev pub RealisesAlone : (List ℕ → Status → List ℕ → Type 0) → Ends → Ends → Status → Type 0
RealisesAlone Says = Realises (λ aside. Says) no_side no_side

-- a run that is out of memory left its input and its output as they were
abbrev pub LeavesAll : Ends → Ends → Status → Type 0
LeavesAll old new answer = answer ≡ status.Memory → new ≡ old

-- a run left them so, unless its side file is accepted
abbrev pub AwaitsSide : {A : Type 0} → (List ℕ → A → Type 0) → SideEnds → Ends → Ends → Type 0
AwaitsSide {A} Is side old new = (new ≡ old) ⊎ IfSome side.left (λ aside. (value : A) × Is aside value)

-- a run that realises what its command makes of the input alone, and leaves its ends as they were where it is out of memory
abbrev pub RealisesLeaving : (List ℕ → Status → List ℕ → Type 0) → Ends → Ends → Status → Type 0
RealisesLeaving Says old new answer = RealisesAlone Says old new answer × LeavesAll old new answer

-- so does one with a side file, and it leaves them so unless that is accepted
abbrev pub RealisesBeside : {A : Type 0} → (List ℕ → A → Type 0) → Verdict → SideEnds → SideEnds → Ends → Ends → Status → Type 0
RealisesBeside Is Says side later old new answer =
    Realises Says side later old new answer × LeavesAll old new answer × AwaitsSide Is side old new
