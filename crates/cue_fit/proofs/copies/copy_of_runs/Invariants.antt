use Rattle.std.proofs.Common.{◌≡◌, take}
use Rattle.cue_fit.proofs.copies.copy_of_runs.Given as goal

-- the runs so far are copied
abbrev pub invariant-loop-run : goal.invariant-loop-run
invariant-loop-run l = l.copies.items ≡ take l.run-index l.runs
