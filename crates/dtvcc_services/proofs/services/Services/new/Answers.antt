use Rattle.std.proofs.Common.{refl, arith}
use Rattle.std.proofs.lemmas.Grind.{common_steps}
use Rattle.dtvcc_services.proofs.LeadsLemmas.{more_clean, none_clean, none_lead}
use Rattle.dtvcc_services.proofs.services.Services.new.Goals as goal

pub loop-place-init : goal.loop-place-init
loop-place-init c = record { are = none_clean _ c.new-members.ensures.items; count = grind (arith, common_steps) }

pub loop-place-preserved : goal.loop-place-preserved
loop-place-preserved c = record {
  are = more_clean _ _ _ c.in_ok-push.ensures.items c.loop-place.invariant.are c.in_ok-new.ensures;
  count = grind (arith, common_steps);
}

pub returns-clause-leads : goal.returns-clause-leads
returns-clause-leads c = none_lead c.loop-place.members.items _ _ refl c.loop-place.invariant.are
