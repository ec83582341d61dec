use Rattle.ccsuite_cli.proofs.program.obey.Goals as goal

pub perform-requires : goal.perform-requires
perform-requires g c = rw c.in-Some.is at c.requires

pub returns-in-Some-clause-answer : goal.returns-in-Some-clause-answer
returns-in-Some-clause-answer g c = rw c.in-Some.is c.perform.ensures.answer

pub returns-in-Some-clause-untouched : goal.returns-in-Some-clause-untouched
returns-in-Some-clause-untouched g c = rw c.in-Some.is c.perform.ensures.untouched

pub returns-in-Some-clause-side : goal.returns-in-Some-clause-side
returns-in-Some-clause-side g c = rw c.in-Some.is c.perform.ensures.side
