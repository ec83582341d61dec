use Rattle.text_output.proofs.PageLemmas.{finished, finished_failed}
use Rattle.text_output.proofs.gathered.Gathered.finish.Goals as goal

pub returns-in-Done : goal.returns-in-Done
returns-in-Done g c start before all has = finished start before all _ _ _ _ c.flush.result c.in-Done.is c.flush.ensures.bytes c.flush.ensures.cause has

pub returns-in-Failed : goal.returns-in-Failed
returns-in-Failed g c start before all has = finished_failed start before all _ c.in-Failed.is has
