use Rattle.std.proofs.Common.{◌≡◌, ◌++◌, take}
use Rattle.std.specs.Prelude.{map}
use Rattle.std.specs.List.{flat_map}
use Rattle.dtvcc_codes.specs.Writing.{bytes_of_command}
use Rattle.dtvcc_author.specs.WindowCommands.{run_commands}
use Rattle.dtvcc_author.proofs.commands.push_runs.Given as goal

-- the units of the runs so far follow what was there
abbrev pub invariant-loop-run : goal.invariant-loop-run
invariant-loop-run l = l.units ≡ l.initial.units ++ map bytes_of_command (flat_map (run_commands l.coloured l.pen l.colors) (take l.run-index l.runs))
