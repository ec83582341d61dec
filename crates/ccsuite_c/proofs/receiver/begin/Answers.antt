use Rattle.std.proofs.Common.{subst, sym}
use Rattle.std.specs.Prelude.{Bool, IfOk}
use Rattle.ccsuite_c.specs.Receivers.{BeginsReceiving}
use Rattle.ccsuite_c.proofs.FedLemmas.{begins}
use Rattle.ccsuite_c.proofs.receiver.begin.Goals as goal

pub returns-then-conceals : goal.returns-then-conceals
returns-then-conceals c =
    subst (λ (b : Bool). IfOk c.concealing.result (BeginsReceiving b)) (sym c.if-conceals.true)
    (begins _ c.concealing.result c.concealing.ensures.concealing c.concealing.ensures.fed c.concealing.ensures.grids c.concealing.ensures.windows)

pub returns-else-conceals : goal.returns-else-conceals
returns-else-conceals c =
    subst (λ (b : Bool). IfOk c.new.result (BeginsReceiving b)) (sym c.if-conceals.false)
    (begins _ c.new.result c.new.ensures.plain c.new.ensures.fed c.new.ensures.grids c.new.ensures.windows)
