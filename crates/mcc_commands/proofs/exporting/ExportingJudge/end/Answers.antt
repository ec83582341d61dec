use Rattle.std.proofs.Common.{sym, subst}
use Rattle.words_reading.proofs.EndLemmas.{ends_by}
use Rattle.words_reading.specs.Judging.{EndsAt}
use Rattle.mcc_commands.proofs.exporting.ExportingJudge.end.Goals as goal

pub returns : goal.returns
returns c start bytes text had =
    subst (λ b. EndsAt b c.finish.result) (sym had.spelled)
    (ends_by _ c.finish.result had.read.unoffending (c.finish.ensures.whole _ had.read.received) (c.finish.ensures.malformed _ had.read.received))
