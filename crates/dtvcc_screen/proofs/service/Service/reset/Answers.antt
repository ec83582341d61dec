use Rattle.dtvcc_screen.specs.Meaning.{Reset}
use Rattle.dtvcc_screen.proofs.MeaningLemmas.{leads_more}
use Rattle.dtvcc_screen.proofs.service.Service.reset.Goals as goal

pub returns-clause-leads : goal.returns-clause-leads
returns-clause-leads c = λ events leads. leads_more events Reset _ leads.clock c.reset.ensures.clean
