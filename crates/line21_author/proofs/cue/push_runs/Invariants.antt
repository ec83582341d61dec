use Rattle.std.proofs.Common.{◌≡◌, ◌++◌, take}
use Rattle.std.specs.List.{flat_map}
use Rattle.line21_author.specs.RunCodes.{run_codes}
use Rattle.line21_author.proofs.cue.push_runs.Given as goal

-- the codes of the runs so far follow those that were there
abbrev pub invariant-loop-run : goal.invariant-loop-run
invariant-loop-run l = l.codes.items ≡ l.initial.codes.items ++ flat_map run_codes (take l.run-index l.runs)
