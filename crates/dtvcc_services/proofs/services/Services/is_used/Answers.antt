use Rattle.std.proofs.Common.{◌∙◌, sym, arith}
use Rattle.std.proofs.lemmas.Grind.{common_steps}
use Rattle.dtvcc_services.proofs.LeadsLemmas.{stands_at}
use Rattle.dtvcc_services.proofs.services.Services.is_used.Goals as goal

pub returns : goal.returns
returns c = λ before frame leads unused.
    let stands = stands_at before frame c.args.self.now.members.items _ _ _ _ c.args.service c.place.result c.index-member.result.now leads (grind (arith, common_steps))
    c.place.ensures.place c.place.ensures.within c.index-member.ensures in
    let is_clean = c.is_used.ensures unused in
    sym stands.carries.screen ∙ is_clean.carries.screen
