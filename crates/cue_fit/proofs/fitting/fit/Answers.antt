use Rattle.cue_fit.proofs.fitting.fit.Goals as goal

pub returns-then-branch : goal.returns-then-branch
returns-then-branch c = c.as_it_is.ensures c.args.late
