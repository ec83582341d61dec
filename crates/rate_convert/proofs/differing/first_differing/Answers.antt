use Rattle.std.proofs.Common.{arith, below_more}
use Rattle.rate_convert.proofs.differing.first_differing.Goals as goal

pub returns-then-service_differs : goal.returns-then-service_differs
returns-then-service_differs c = λ bytes frames others had are served.
    let from = c.loop-service.auto.service in
    let to = c.loop-service-test.true in
    record {
      numbered = record { from = omega arith; to = omega arith };
      differs = c.service_differs.ensures.different bytes frames others had are served c.if-service_differs.true;
      before = λ other one below. c.loop-service.invariant bytes frames others had are served other below one;
    }

pub loop-service-preserved : goal.loop-service-preserved
loop-service-preserved c = λ bytes frames others had are served.
    below_more _ _ (c.loop-service.invariant bytes frames others had are served)
    (λ one. c.service_differs.ensures.same bytes frames others had are served c.if-service_differs.false)
