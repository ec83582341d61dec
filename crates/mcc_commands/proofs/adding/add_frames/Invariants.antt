use Rattle.std.proofs.Common.{◌≡◌, []}
use Rattle.text_output.specs.Gathered.{held_of}
use Rattle.mcc_commands.proofs.AddLemmas.{MissingFront}
use Rattle.mcc_commands.proofs.adding.add_frames.Given as goal

abbrev pub invariant-loop-left : goal.invariant-loop-left
invariant-loop-left g l = record {
  none : l.words.items ≡ [];
  steady : g.O.Sink.faults l.out ≡ g.O.Sink.faults l.fn.out;
  so : MissingFront l.fn.missing l.left (g.O.Sink.written l.fn.out) (g.O.Sink.written l.out) (held_of l.fn.text) (held_of l.text);
}

abbrev pub decreases-loop-left : goal.decreases-loop-left
decreases-loop-left g l = l.left.left
