-- Believed in part: the library's answers stand on some of these definitions.
-- Runs of commands over memory.
use Rattle.std.specs.Prelude.{◌≡◌, ◌≢◌, ◌≤◌, ◌<◌, ◌⊎◌, ◌++◌, ℕ, List, [], length, drop, take, Some}
use Rattle.ccsuite_cli.specs.Answer.{Answer}
use Rattle.ccsuite_cli.specs.declared.command.Command.{Command}
use Rattle.caption_streams.specs.SideEnds.{side_ends}
use Rattle.command_base.specs.Ends.{ends}
use Rattle.command_base.specs.declared.status.Status.{Status}
use Rattle.command_base.specs.declared.status.Status.TheVariants as statuses
use Rattle.reported_runs.specs.Reports.{report_of, report_of_room}
use Rattle.reported_runs.specs.declared.report.Report.{Report}

-- all that a run wrote stands at the front of the output, whose other bytes are as they were, and is reported with its status
pub record StandsInFront (status : Status) (written before after : List ℕ) (report : Report) : Type 0 where
  pub fits : length written ≤ length before
  pub stands : after ≡ written ++ drop (length written) before
  pub told : report ≡ report_of status (length written)

-- a run wrote more bytes than there is room for: a front of them fills the output, and it is reported how many are wanted
pub record FillsRoom (written before after : List ℕ) (report : Report) : Type 0 where
  pub more : length before < length written
  pub fills : after ≡ take (length before) written
  pub told : report ≡ report_of_room (length written) (length before)

-- memory wasn't found, and the output is as it was
pub record LacksMemory (before after : List ℕ) (report : Report) : Type 0 where
  pub untouched : after ≡ before
  pub told : report ≡ report_of statuses.Memory 0

-- a command ran over an output that takes all, and answered as it answers everywhere: its input was these bytes, and its side file those;
-- what it wrote stands in the output, or fills it
pub record RanInMemory (command : Command) (input side before after : List ℕ) (report : Report) : Type 0 where
  pub status : Status
  pub written : List ℕ
  pub left : List ℕ
  pub side_left : List ℕ
  pub faults : ℕ
  pub answer : Answer (Some command) (side_ends (Some side) 0) (side_ends (Some side_left) 0)
      (ends (Some input) 0 (Some []) 0) (ends (Some left) 0 (Some written) faults) status
  pub takes_all : status ≢ statuses.WriteFault
  pub stands : StandsInFront status written before after report ⊎ FillsRoom written before after report

-- the one or the other
abbrev pub RunsInMemory : Command → List ℕ → List ℕ → List ℕ → List ℕ → Report → Type 0
RunsInMemory command input side before after report =
    RanInMemory command input side before after report ⊎ LacksMemory before after report

-- how a run ends that wrote this: a put of it failed for memory, or it stands in the output, or fills it
abbrev pub Stands : Status → List ℕ → List ℕ → List ℕ → Report → Type 0
Stands answer written before after report =
    ((answer ≢ statuses.WriteFault) × (StandsInFront answer written before after report ⊎ FillsRoom written before after report))
    ⊎ LacksMemory before after report
