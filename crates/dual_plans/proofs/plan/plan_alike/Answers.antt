use Rattle.dual_plans.proofs.plan.plan_alike.Goals as goal

pub plan_both-requires : goal.plan_both-requires
plan_both-requires c = record {
  formed = c.in-Ok-None.ensures.formed.0;
  ruled = c.requires.first;
  second_formed = c.in-Ok-None.ensures.formed.1;
  second_ruled = c.requires.second;
  alike = c.requires.alike;
  apart = rw c.in-Ok-None.field-0-is at c.in-Ok-None.ensures.least;
}
