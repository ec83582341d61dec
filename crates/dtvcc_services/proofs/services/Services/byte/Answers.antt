use Rattle.dtvcc_services.proofs.LeadsLemmas.{byte_of_none}
use Rattle.dtvcc_services.proofs.services.Services.byte.Goals as goal

pub returns-else-is_service-clause-leads : goal.returns-else-is_service-clause-leads
returns-else-is_service-clause-leads c = λ before frame leads.
    byte_of_none before frame c.args.self.now c.args.service c.args.byte (c.is_service.ensures.no c.if-is_service.false) leads
