use Rattle.scc_commands.proofs.ImportLemmas.{passes_end, passes_none, passes_pair}
use Rattle.scc_commands.proofs.cursor.Cursor.pass.Goals as goal

pub returns-then-placed-frame : goal.returns-then-placed-frame
returns-then-placed-frame c =
    passes_pair c.args.frame _ c.in-Some.placed.now c.in-Some.rest.now c.requires c.in-Some.ensures.cases.0 c.if-placed-frame.true

pub returns-else-placed-frame : goal.returns-else-placed-frame
returns-else-placed-frame c =
    passes_none c.args.frame _ c.in-Some.placed.now c.in-Some.rest.now c.requires c.in-Some.ensures.cases.0 c.if-placed-frame.false

pub returns-in-None : goal.returns-in-None
returns-in-None c = passes_end c.args.frame _ c.in-None.ensures.cases
