use Rattle.std.proofs.Common.{◌≡◌, []}
use Rattle.text_output.specs.Gathered.{held_of}
use Rattle.frame_carrier.specs.Framing.{Framing, HasFraming, words_of}
use Rattle.frame_carrier.proofs.WordsLemmas.{WordsOnTheWay}
use Rattle.frame_carrier.proofs.put.put_words.Given as goal

-- no words are left over, no fault came, and the words are on their way
abbrev pub invariant-loop-pairs : goal.invariant-loop-pairs
invariant-loop-pairs g l = (l.words.items ≡ []) × (g.O.Sink.faults l.out ≡ g.O.Sink.faults l.initial.out)
    × ((framing : Framing) → HasFraming g.F.Frames.left g.F.Frames.Gives framing l.fn.programme
    → WordsOnTheWay g.F.Frames.left g.F.Frames.Gives framing.rate framing.columns (g.O.Sink.written l.initial.out) (g.O.Sink.written l.out) (held_of l.gathered) l.frames l.carrier (words_of framing))

abbrev pub decreases-loop-pairs : goal.decreases-loop-pairs
decreases-loop-pairs g l = g.F.Frames.left l.frames
