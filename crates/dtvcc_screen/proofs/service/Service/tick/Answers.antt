use Rattle.std.proofs.Common.{ap, subst}
use Rattle.dtvcc_screen.specs.declared.clock.Clock.{Clock}
use Rattle.dtvcc_screen.specs.Cores.{after_tick}
use Rattle.dtvcc_screen.specs.Meaning.{Tick, served_after, start, ticked}
use Rattle.dtvcc_screen.specs.Objects.{Stands}
use Rattle.dtvcc_screen.proofs.MeaningLemmas.{leads_more}
use Rattle.dtvcc_screen.proofs.service.Service.tick.Goals as goal

pub returns-clause-leads : goal.returns-clause-leads
returns-clause-leads c = λ events leads.
    leads_more events (Tick c.args.rate) _ (ap (ticked c.args.rate) leads.clock)
    (subst (λ (clock : Clock). Stands (after_tick (ticked c.args.rate clock) (served_after start events).core) c.tick.new.self) leads.clock
    (c.tick.ensures.stands (served_after start events).core leads.core))
