use Rattle.std.proofs.Common.{◌≡◌, ◌∙◌, List, length, refl, sym, subst, arith}
use Rattle.std.proofs.lemmas.Grind.{common_steps}
use Rattle.dtvcc_services.specs.declared.members.Member.{Member}
use Rattle.dtvcc_services.specs.Passing.{NoneEndsBefore}
use Rattle.dtvcc_services.proofs.LeadsLemmas.{stepped_from, tick_leads, written_back}
use Rattle.dtvcc_services.proofs.services.Services.tick.Goals as goal

pub returns-clause-leads : goal.returns-clause-leads
returns-clause-leads c = λ before frame leads.
    let same : c.deref_mut.result.now ≡ c.args.self.now.members.items = c.deref_mut.ensures.value in
    let count : length c.args.self.now.members.items ≡ c.args.self.now.members.len = grind (arith, common_steps) in
    let sixty_three : length c.args.self.now.members.items ≡ 63 = grind (arith, common_steps) in
    let stepped = stepped_from same
    (c.pass-passed.ensures (subst (λ (members : List Member). NoneEndsBefore c.args.self.now.next members) (sym same) leads.waits)) in
    written_back _ _ _ _ _ _ _ _ _ (stepped.count ∙ count)
    (tick_leads before frame c.args.self.now.members.items _ c.args.self.now.clock _ c.args.rate c.args.self.now.next _ c.args.self.now.touched _
    c.args.self.now.filled leads sixty_three refl stepped)
