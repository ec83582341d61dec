-- Between crates: the program's answer stands on none of these definitions.
-- Runs over memory: what one is given, and that it ended as the program answers.
use Rattle.std.specs.Prelude.{ℕ, List, [], Option, Some, map}
use Rattle.cc_base.specs.MemorySink.{sink_faults, sink_written}
use Rattle.command_base.specs.Ends.{ends}
use Rattle.command_base.specs.SideEnds.{SideEnds, side_ends}
use Rattle.ccsuite_cli.specs.Answer.{Answer}
use Rattle.ccsuite_cli.specs.Command.{command_of}
use Rattle.ccsuite_cli.specs.StatusLine.{PutsLine}
use Rattle.memory_runs.specs.declared.given.Given.{Given}
use Rattle.memory_runs.specs.declared.runs.Ended.{Ended}

-- the run of what is given ended so, and put this: as the program answers to its words, over the whole input and the whole side file
pub record IsAnswered (given : Given) (ended : Ended) : Type 0 where
  pub later : SideEnds
  pub left : Option (List ℕ)
  pub read_faults : ℕ
  pub answers : Answer (command_of (map (λ word. word.now) given.words.now)) (side_ends (Some given.side.now) 0) later
      (ends (Some given.text.now) 0 (Some []) 0) (ends left read_faults (Some (sink_written ended.out)) (sink_faults ended.out)) ended.status

-- the line of its status was put to the error output, or a front of it where a put failed
abbrev pub SaysStatus : Ended → Type 0
SaysStatus ended = PutsLine (Some []) (Some (sink_written ended.err)) 0 (sink_faults ended.err) ended.status
