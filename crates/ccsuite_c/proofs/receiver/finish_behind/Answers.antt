use Rattle.ccsuite_c.proofs.FedLemmas.{ends, ends_well}
use Rattle.ccsuite_c.proofs.receiver.finish_behind.Goals as goal

pub returns-clause-end : goal.returns-clause-end
returns-clause-end c = λ bytes had.
    ends bytes c.finish.result _ _ (c.finish.ensures.whole bytes had) (c.finish.ensures.malformed bytes had) c.tell_end.ensures

pub returns-clause-file : goal.returns-clause-file
returns-clause-file c = λ bytes frames had is. ends_well c.finish.result _ _ (c.finish.ensures.file bytes frames had is) c.tell_end.ensures
