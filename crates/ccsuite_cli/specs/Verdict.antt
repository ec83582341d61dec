-- Between crates: the program's answer stands on none of these definitions.
-- The one law of exactness: of every input there is one verdict, and a run in which no count of faults rose answers it, or Memory. And where
-- a count rose, the answer says so.
use Rattle.std.specs.Prelude.{◌≡◌, ◌⊎◌, ℕ, List, Some}
use Rattle.std.specs.Io.KnownBytes.{Keeps}
use Rattle.command_base.specs.Counts.{IsReadOf, IsSideOf, TellsAllFaults}
use Rattle.command_base.specs.Ends.{Ends}
use Rattle.command_base.specs.Exact.{HasVerdict, IsFault, IsOne}
use Rattle.command_base.specs.Realises.{PutsSaid}
use Rattle.command_base.specs.SideEnds.{SideEnds}
use Rattle.command_base.specs.declared.status.Status.{Status}
use Rattle.command_base.specs.declared.status.Status.TheVariants as status
use Rattle.ccsuite_cli.specs.Answer.{Answer, input_for, side_for, verdict_of}
use Rattle.ccsuite_cli.specs.Command.{IsRunnable}
use Rattle.ccsuite_cli.specs.declared.command.Command.{Command}

-- of bytes a command makes one status, but for faults
abbrev pub VerdictIsOne : Type 0
VerdictIsOne = (command : Command) → IsOne (verdict_of command)

-- and of every side file and all bytes one
abbrev pub EveryInputHasVerdict : Type 0
EveryInputHasVerdict = (command : Command) → IsRunnable (Some command) → HasVerdict (verdict_of command)

-- where no count of faults rose, a run answers that and has put its text, or it answers Memory and has put nothing
abbrev pub VerdictIsAnswered : Type 0
VerdictIsAnswered = (command : Command) (aside input : List ℕ) (verdict : Status) (text : List ℕ) (side later : SideEnds) (old new : Ends) (answer : Status)
    → (IsFault verdict → ⊥) → verdict_of command aside input verdict text
    → IsSideOf aside (side_for command side) (side_for command later) → IsReadOf input (input_for command old) (input_for command new)
    → Answer (Some command) side later old new answer
    → ((answer ≡ status.Memory) × Keeps (input_for command old).written (input_for command new).written)
    ⊎ ((answer ≡ verdict) × PutsSaid (verdict_of command) aside input (input_for command old) (input_for command new) verdict)

-- where a count of faults is greater than before, that is the answer
abbrev pub FaultsAreTold : Type 0
FaultsAreTold = (command : Command) (side later : SideEnds) (old new : Ends) (answer : Status) → Answer (Some command) side later old new answer
    → TellsAllFaults (side_for command side) (side_for command later) (input_for command old) (input_for command new) answer
