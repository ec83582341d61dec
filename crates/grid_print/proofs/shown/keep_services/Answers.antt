use Rattle.std.proofs.Common.{◌≡◌, get_or, arith, refl, subst}
use Rattle.std.proofs.lemmas.Grind.{common_steps}
use Rattle.grid_print.specs.Kept.{HasKept, KeepsServices}
use Rattle.grid_print.proofs.KeptLemmas.{services_more, services_none}
use Rattle.grid_print.proofs.shown.keep_services.Goals as goal

pub loop-place-init : goal.loop-place-init
loop-place-init g c seen behind = services_none seen c.args.services.now

pub loop-place-preserved : goal.loop-place-preserved
loop-place-preserved g c seen behind =
    services_more seen c.loop-place.place c.args.services.now c.loop-place.services c.keep-differs.new.self c.index-services-place.result
    c.loop-place.changed c.keep-differs.result _ (c.loop-place.invariant seen behind) (grind (arith, common_steps))
    (subst (λ n. HasKept (seen n) (get_or c.loop-place.services c.loop-place.place c.index-services-place.result) c.keep-differs.new.self) c.service_at.ensures.number (c.keep-differs.ensures.kept seen behind))
    c.keep-differs.ensures.told refl

pub returns : goal.returns
returns g c seen behind =
    let all : c.loop-place.place ≡ 63 = grind (arith, common_steps) in
    subst (λ n. KeepsServices seen n c.args.services.now c.loop-place.services c.loop-place.changed) all (c.loop-place.invariant seen behind)
