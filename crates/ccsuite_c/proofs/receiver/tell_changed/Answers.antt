use Rattle.std.proofs.Common.{refl}
use Rattle.ccsuite_c.proofs.receiver.tell_changed.Goals as goal

pub returns-clause-changed : goal.returns-clause-changed
returns-clause-changed c = λ frames stands. (
  refl,
  record { reception = c.changed-changed.ensures.reception; last = c.changed-changed.ensures.last frames stands },
  (c.changed-changed.result, c.changed-changed.ensures.told frames stands, refl),
)
