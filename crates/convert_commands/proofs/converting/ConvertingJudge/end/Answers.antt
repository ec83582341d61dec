use Rattle.words_reading.proofs.EndLemmas.{ends_by}
use Rattle.convert_commands.proofs.converting.ConvertingJudge.end.Goals as goal

pub returns : goal.returns
returns c given bytes text had =
    ends_by bytes c.finish.result had.underway.unoffending (c.finish.ensures.whole bytes had.underway.converted) (c.finish.ensures.malformed bytes had.underway.converted)
