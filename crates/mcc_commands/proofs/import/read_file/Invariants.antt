use Rattle.std.proofs.Common.{◌≡◌, []}
use Rattle.text_output.specs.Gathered.{held_of}
use Rattle.mcc_commands.proofs.ReadLemmas.{IsUnderway}
use Rattle.mcc_commands.proofs.import.read_file.Given as goal

abbrev pub invariant-loop-importing : goal.invariant-loop-importing
invariant-loop-importing g l = record {
  reads : g.M.Source.faults l.input ≡ g.M.Source.faults l.initial.input;
  writes : g.O.Sink.faults l.out ≡ g.O.Sink.faults l.initial.out;
  none_held : held_of l.text ≡ [];
  underway : IsUnderway (g.M.Source.left l.initial.input) (g.M.Source.left l.input) (g.O.Sink.written l.initial.out) (g.O.Sink.written l.out) l.importing l.room;
}

abbrev pub decreases-loop-importing : goal.decreases-loop-importing
decreases-loop-importing g l = l.room
