use Rattle.words_reading.proofs.EndLemmas.{ends_by}
use Rattle.words_commands.proofs.concealing.ConcealingJudge.end.Goals as goal

pub returns : goal.returns
returns c given bytes text had = ends_by bytes c.finish.result had.unoffending (c.finish.ensures.whole bytes had.had) (c.finish.ensures.malformed bytes had.had)
