use Rattle.std.proofs.Common.{◌++◌, subst, sym}
use Rattle.dtvcc_services.specs.Objects.{Leads}
use Rattle.service_blocks.specs.declared.parts.BlockPart.{BlockPart}
use Rattle.services_files.specs.Events.{event_of}
use Rattle.cc_receiver.proofs.services.give.Goals as goal

pub returns-in-Reset-clause-leads : goal.returns-in-Reset-clause-leads
returns-in-Reset-clause-leads c = λ earlier last leads.
    subst (λ (p : BlockPart). Leads earlier (λ service. last service ++ event_of service p) c.reset.new.self) (sym c.in-Reset.is) (c.reset.ensures.leads earlier last leads)

pub returns-in-Byte-clause-leads : goal.returns-in-Byte-clause-leads
returns-in-Byte-clause-leads c = λ earlier last leads.
    subst (λ (p : BlockPart). Leads earlier (λ service. last service ++ event_of service p) c.byte.new.self) (sym c.in-Byte.is) (c.byte.ensures.leads earlier last leads)
