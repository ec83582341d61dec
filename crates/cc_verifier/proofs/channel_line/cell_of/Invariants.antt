use Rattle.std.proofs.Common.{◌≡◌, drop}
use Rattle.cue_lists.specs.AuthoredGrid.{cells_of}
use Rattle.cc_verifier.proofs.channel_line.cell_of.Given as goal

abbrev pub invariant-loop-run : goal.invariant-loop-run
invariant-loop-run l = cells_of l.runs l.row l.column ≡ cells_of (drop l.run-index l.runs) l.row l.column
