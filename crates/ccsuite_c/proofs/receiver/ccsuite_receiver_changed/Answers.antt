use Rattle.std.proofs.Common.{subst, sym}
use Rattle.std.specs.Prelude.{Option}
use Rattle.ccsuite_c.specs.Receivers.{ChangedAnswer}
use Rattle.ccsuite_c.specs.declared.state.State.{State}
use Rattle.ccsuite_c.proofs.receiver.ccsuite_receiver_changed.Goals as goal

pub returns-in-Some-clause-changed : goal.returns-in-Some-clause-changed
returns-in-Some-clause-changed c = λ r frames is stands.
    subst (λ (s : Option State). ChangedAnswer r frames c.changed-code.result c.changed-code.new.seen s) (sym c.of.ensures)
    (c.changed-code.ensures.changed r frames (cc (c.in-Some.ensures.taken)) stands)
