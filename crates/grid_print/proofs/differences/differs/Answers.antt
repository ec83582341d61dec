use Rattle.grid_print.proofs.DifferenceLemmas.{told_by}
use Rattle.grid_print.proofs.differences.differs.Goals as goal

pub returns-clause-told : goal.returns-clause-told
returns-clause-told c = told_by c.args.one.now c.args.other.now c.differs.result c.differs.ensures.same c.differs.ensures.other
