use Rattle.std.proofs.Common.{take}
use Rattle.std.specs.List.{flat_map}
use Rattle.std.specs.Vec.{vec_items}
use Rattle.cue_form.specs.Printing.{Wrote}
use Rattle.cue_form.specs.Spelling.{run_records}
use Rattle.cue_form.proofs.printing.write_runs.Given as goal

-- the runs so far were written
abbrev pub invariant-loop-run : goal.invariant-loop-run
invariant-loop-run l = Wrote vec_items l.initial.writer l.writer (flat_map run_records (take l.run-index l.runs))
