use Rattle.line21_codes.proofs.RepeatLemmas.{waits_next}
use Rattle.line21_codes.proofs.doubling.Doubler.step.Goals as goal

pub returns-clause-waits : goal.returns-clause-waits
returns-clause-waits c before waits =
    waits_next before c.args.self.now c.args.pair waits c.is_control.result c.is_waiting-ignored.result c.then_some-self.result
    c.is_control.ensures c.is_waiting-ignored.ensures c.then_some-self.ensures
