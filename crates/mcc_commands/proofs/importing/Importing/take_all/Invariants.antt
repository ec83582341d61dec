use Rattle.std.proofs.Common.{◌≡◌, length}
use Rattle.text_output.specs.Gathered.{held_of}
use Rattle.mcc_commands.proofs.ImportStepLemmas.{TakenFront}
use Rattle.mcc_commands.proofs.importing.Importing.take_all.Given as goal

abbrev pub invariant-loop-rest : goal.invariant-loop-rest
invariant-loop-rest g l = record {
  steady : g.O.Sink.faults l.out ≡ g.O.Sink.faults l.fn.out;
  taken : TakenFront l.bytes l.rest l.fn.self l.self (g.O.Sink.written l.fn.out) (g.O.Sink.written l.out) (held_of l.fn.text) (held_of l.text);
}

abbrev pub decreases-loop-rest : goal.decreases-loop-rest
decreases-loop-rest g l = length l.rest
