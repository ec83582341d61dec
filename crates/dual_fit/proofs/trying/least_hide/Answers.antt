use Rattle.dual_fit.proofs.trying.least_hide.Goals as goal

pub returns-in_default : goal.returns-in_default
returns-in_default c = c.unhidden.ensures c.args.late
