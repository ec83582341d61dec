use Rattle.std.proofs.Common.{arith}
use Rattle.std.proofs.lemmas.Grind.{common_steps}
use Rattle.dtvcc_services.specs.Objects.{served_now}
use Rattle.dtvcc_services.proofs.LeadsLemmas.{stands_at}
use Rattle.dtvcc_services.proofs.services.Services.window.Goals as goal

pub returns-clause-window : goal.returns-clause-window
returns-clause-window c = λ before frame leads.
    c.window.ensures.window (served_now before frame c.args.service).core
    (stands_at before frame c.args.self.now.members.items _ _ _ _ c.args.service c.place.result c.index-member.result.now leads (grind (arith, common_steps))
    c.place.ensures.place c.place.ensures.within c.index-member.ensures)
