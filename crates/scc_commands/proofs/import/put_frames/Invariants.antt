use Rattle.std.proofs.Common.{◌≡◌}
use Rattle.text_output.specs.Gathered.{held_of}
use Rattle.scc_commands.specs.Cursors.{pairs_left}
use Rattle.scc_commands.proofs.ImportLemmas.{WordsOnTheWay}
use Rattle.scc_commands.proofs.import.put_frames.Given as goal

-- no fault came, and the words of the frames before this one were gathered
abbrev pub invariant-loop-frame : goal.invariant-loop-frame
invariant-loop-frame g l = (g.O.Sink.faults l.out ≡ g.O.Sink.faults l.initial.out)
    × WordsOnTheWay l.pairs (pairs_left l.cursor) l.frame l.frame-end l.carrier (held_of l.gathered) (g.O.Sink.written l.initial.out) (g.O.Sink.written l.out)
