use Rattle.dual_plans.proofs.FieldLemmas.{second_refused, second_result}
use Rattle.dual_plans.proofs.field.second_field.Goals as goal

pub returns-clause-filled : goal.returns-clause-filled
returns-clause-filled c =
    second_result c.args.first.now c.args.second.now c.args.channel c.args.field.now c.requires.started c.second_places.result
    (rw c.deref.ensures.value at c.second_places.ensures.filled)

pub returns-clause-fault : goal.returns-clause-fault
returns-clause-fault c =
    second_refused c.args.first.now c.args.second.now c.args.channel c.args.field.now c.requires.started c.second_places.result
    (rw c.deref.ensures.value at c.second_places.ensures.fault)
