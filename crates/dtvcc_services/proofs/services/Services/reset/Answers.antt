use Rattle.std.proofs.Common.{◌≡◌, ◌∙◌, length, arith}
use Rattle.std.proofs.lemmas.Grind.{common_steps}
use Rattle.dtvcc_services.proofs.LeadsLemmas.{reset_leads, stepped_from, written_back}
use Rattle.dtvcc_services.proofs.PassLemmas.{noted_before, noted_now}
use Rattle.dtvcc_services.proofs.services.Services.reset.Goals as goal

pub returns-clause-leads : goal.returns-clause-leads
returns-clause-leads c = λ before frame leads.
    let same : c.deref_mut.result.now ≡ c.args.self.now.members.items = c.deref_mut.ensures.value in
    let count : length c.args.self.now.members.items ≡ c.args.self.now.members.len = grind (arith, common_steps) in
    let sixty_three : length c.args.self.now.members.items ≡ 63 = grind (arith, common_steps) in
    let stepped = stepped_from same (c.reset_all-seen.ensures 18446744073709551615) in
    written_back _ _ _ _ _ _ _ _ _ (stepped.count ∙ count)
    (reset_leads before frame c.args.self.now.members.items _ c.args.self.now.clock c.args.self.now.next _ c.args.self.now.touched c.reset_all-seen.result _
    c.args.self.now.filled leads sixty_three stepped
    (noted_before _ _ _ c.either-self.ensures) (noted_now c.args.self.now.touched _ _ c.either-self.ensures))
