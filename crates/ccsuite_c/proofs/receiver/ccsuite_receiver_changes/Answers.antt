use Rattle.std.proofs.Common.{subst, sym}
use Rattle.std.specs.Prelude.{Option}
use Rattle.ccsuite_c.specs.Receivers.{ChangesAnswer}
use Rattle.ccsuite_c.specs.declared.state.State.{State}
use Rattle.ccsuite_c.proofs.receiver.ccsuite_receiver_changes.Goals as goal

pub returns-in-Some-clause-changes : goal.returns-in-Some-clause-changes
returns-in-Some-clause-changes c = λ r frames is stands.
    subst (λ (s : Option State). ChangesAnswer r frames c.args.out.now c.changes-code.new.out c.changes-code.result c.changes-code.new.written s) (sym c.of.ensures)
    (c.changes-code.ensures.changes r frames (cc (c.in-Some.ensures.taken)) stands)
