use Rattle.std.proofs.Common.{arith}
use Rattle.dtvcc_windows.specs.Objects.{state_of}
use Rattle.cc_verifier.proofs.WindowSeenLemmas.{cells_same}
use Rattle.cc_verifier.proofs.window_seen.has_other_cell.Goals as goal

pub returns-clause-same : goal.returns-clause-same
returns-clause-same c told =
    cells_same (state_of c.args.window.now) c.args.own c.args.runs.now c.requires.rows c.requires.cols c.requires.formed.runs_are c.args.window.now.within
    (λ row below. c.loop-row.invariant row (omega arith))
