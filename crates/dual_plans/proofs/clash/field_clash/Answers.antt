use Rattle.dual_plans.proofs.ClashLemmas.{both_fields}
use Rattle.dual_plans.proofs.clash.field_clash.Goals as goal

pub returns-clause-least : goal.returns-clause-least
returns-clause-least c =
    rw c.earlier.ensures
    (both_fields c.args.first.now c.args.second.now c.in_ok-one.one c.in_ok-two.two c.in_ok-one.ensures.least c.in_ok-two.ensures.least)
