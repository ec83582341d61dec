use Rattle.std.proofs.Common.{sym}
use Rattle.verify_commands.proofs.VerifyingLemmas.{finding_met, goes_on, nothing_met, word_refused}
use Rattle.verify_commands.proofs.verifying.VerifyingJudge.step.Goals as goal

pub returns-in-Err-clause-judges : goal.returns-in-Err-clause-judges
returns-in-Err-clause-judges g c list start before had =
    word_refused list start _ _ before c.args.bytes.now c.args.self.now c.feed.new.self c.in-Err.refusal had (c.in-Err.ensures.feeds before had.judged.judged.verified)

pub returns-in-Some-clause-judges : goal.returns-in-Some-clause-judges
returns-in-Some-clause-judges g c list start before had =
    finding_met list start _ _ before c.args.bytes.now c.args.self.now c.feed.new.self c.in-Ok.fed c.in-Some.finding had (c.in-Ok.ensures.feeds before had.judged.judged.verified)
    (c.in-Ok.ensures.verified before had.judged.judged.verified) c.feed.ensures.list (sym c.in-Some.ensures)

pub returns-in-None-clause-judges : goal.returns-in-None-clause-judges
returns-in-None-clause-judges g c list start before had =
    nothing_met list start _ _ before c.args.bytes.now c.args.self.now c.feed.new.self c.in-Ok.fed had (c.in-Ok.ensures.feeds before had.judged.judged.verified)
    (c.in-Ok.ensures.verified before had.judged.judged.verified) c.feed.ensures.list (sym c.in-None.ensures) c.in-Ok.ensures.within (c.in-Ok.ensures.moves c.requires.some)

pub returns-in-None-clause-reads : goal.returns-in-None-clause-reads
returns-in-None-clause-reads g c before had =
    goes_on before c.args.bytes.now c.args.self.now c.feed.new.self c.in-Ok.fed had (c.in-Ok.ensures.feeds before had.verified)
    (c.in-Ok.ensures.verified before had.verified) c.feed.ensures.list (sym c.in-None.ensures) c.in-Ok.ensures.within (c.in-Ok.ensures.moves c.requires.some)
