use Rattle.std.proofs.Common.{arith}
use Rattle.std.proofs.lemmas.Grind.{common_steps}
use Rattle.dtvcc_services.proofs.LeadsLemmas.{byte_leads}
use Rattle.dtvcc_services.proofs.PassLemmas.{noted_before, noted_now}
use Rattle.dtvcc_services.proofs.services.Services.take.Goals as goal

pub returns-clause-leads : goal.returns-clause-leads
returns-clause-leads c = λ before frame leads.
    byte_leads before frame c.args.self.now.members.items c.args.self.now.clock c.args.self.now.next _ c.until-end.result c.args.self.now.touched _ c.byte-taken.result.full
    c.byte-taken.result.seen c.args.self.now.filled _ c.args.service c.args.byte c.place.result c.index_mut-member.result.now c.byte-taken.new.self leads
    (grind (arith, common_steps)) c.requires.service c.place.ensures.place c.index_mut-member.ensures.value
    (record { stands = c.byte-taken.ensures.stands; full_is = c.byte-taken.ensures.full; same = c.byte-taken.ensures.same })
    c.earlier-self.ensures c.until-end.ensures.end
    (noted_before _ _ _ c.either-self.ensures) (noted_now c.args.self.now.touched _ _ c.either-self.ensures) c.lowest-self.ensures
