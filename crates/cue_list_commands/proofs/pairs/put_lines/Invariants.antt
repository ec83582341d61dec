use Rattle.std.proofs.Common.{◌≡◌}
use Rattle.frame_carrier.specs.Framing.{Framing, HasFraming}
use Rattle.text_output.specs.Gathered.{held_of}
use Rattle.cue_list_commands.specs.Output.{lines_of}
use Rattle.cue_list_commands.proofs.GatheredLines.{LinesOnTheWay}
use Rattle.cue_list_commands.proofs.pairs.put_lines.Given as goal

-- no fault came, and the lines are on their way
abbrev pub invariant-loop-pairs : goal.invariant-loop-pairs
invariant-loop-pairs g l = (g.O.Sink.faults l.out ≡ g.O.Sink.faults l.initial.out)
    × ((framing : Framing) → HasFraming g.F.Frames.left g.F.Frames.Gives framing l.fn.programme
    → LinesOnTheWay g.F.Frames.left g.F.Frames.Gives framing.columns (g.O.Sink.written l.initial.out) (g.O.Sink.written l.out) (held_of l.text) l.frames (lines_of framing))

abbrev pub decreases-loop-pairs : goal.decreases-loop-pairs
decreases-loop-pairs g l = g.F.Frames.left l.frames
