use Rattle.std.proofs.Common.{subst}
use Rattle.dtvcc_screen.specs.declared.clock.Clock.{Clock}
use Rattle.dtvcc_screen.specs.Cores.{after_byte}
use Rattle.dtvcc_screen.specs.Meaning.{Byte, served_after, start}
use Rattle.dtvcc_screen.specs.Objects.{Stands}
use Rattle.dtvcc_screen.proofs.MeaningLemmas.{leads_more}
use Rattle.dtvcc_screen.proofs.service.Service.byte.Goals as goal

pub returns-clause-leads : goal.returns-clause-leads
returns-clause-leads c = λ events leads.
    leads_more events (Byte c.args.byte) _ leads.clock
    (subst (λ (clock : Clock). Stands (after_byte c.args.byte clock (served_after start events).core) c.byte.new.self) leads.clock
    (c.byte.ensures.stands (served_after start events).core leads.core))
