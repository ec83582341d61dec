use Rattle.std.proofs.Common.{◌∙◌, ap, arith, refl}
use Rattle.std.proofs.lemmas.Grind.{common_steps}
use Rattle.dtvcc_windows.specs.Showing.{shown}
use Rattle.grid_print.specs.Keeping.{windows_seen}
use Rattle.grid_print.proofs.KeptLemmas.{push_none}
use Rattle.grid_print.proofs.kept.Kept.new.Goals as goal

pub loop-id-init : goal.loop-id-init
loop-id-init c = record { none = λ id. ap (λ ws. windows_seen ws id) c.new-windows.ensures.items ∙ refl; count = grind (arith, common_steps) }

pub loop-id-preserved : goal.loop-id-preserved
loop-id-preserved c = record {
  none = λ id. ap (λ ws. windows_seen ws id) c.in_ok-push.ensures.items ∙ push_none _ _ c.loop-id.invariant.none (ap shown c.in_ok-new.ensures.none) id;
  count = grind (arith, common_steps);
}
