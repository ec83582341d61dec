use Rattle.verify_commands.proofs.VerifyingLemmas.{ends_cut, ends_so}
use Rattle.verify_commands.proofs.verifying.VerifyingJudge.end.Goals as goal

pub returns-in-Ok : goal.returns-in-Ok
returns-in-Ok c list bytes text had = ends_so list bytes text c.args.self.now _ had (c.in-Ok.ensures bytes had.judged.verified)

pub returns-in-Err : goal.returns-in-Err
returns-in-Err c list bytes text had = ends_cut list bytes text c.args.self.now c.in-Err.refusal had (c.in-Err.ensures bytes had.judged.verified)
