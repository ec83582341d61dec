use Rattle.std.proofs.Common.{◌∙◌, ap, arith, refl}
use Rattle.std.proofs.lemmas.Grind.{common_steps}
use Rattle.grid_print.specs.Kept.{seen_at}
use Rattle.grid_print.proofs.KeptLemmas.{push_service}
use Rattle.grid_print.proofs.shown.no_services.Goals as goal

pub loop-place-init : goal.loop-place-init
loop-place-init c = record { none = λ place id. ap (λ ks. seen_at ks place id) c.new-services.ensures.items ∙ refl; count = grind (arith, common_steps) }

pub loop-place-preserved : goal.loop-place-preserved
loop-place-preserved c = record {
  none = λ place id. ap (λ ks. seen_at ks place id) c.in_ok-push.ensures.items ∙ push_service _ _ c.loop-place.invariant.none c.in_ok-new.ensures place id;
  count = grind (arith, common_steps);
}
