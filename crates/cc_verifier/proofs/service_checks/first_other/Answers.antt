use Rattle.std.proofs.Common.{arith, below_more}
use Rattle.cc_verifier.proofs.service_checks.first_other.Goals as goal

pub returns-then-has_other_window : goal.returns-then-has_other_window
returns-then-has_other_window c bytes frames had are =
    let from = c.loop-service.auto.service in
    let to = c.loop-service-test.true in
    record {
      is = record { from = omega arith; to = omega arith };
      shows = c.has_other_window.ensures.other bytes frames had are c.if-has_other_window.true;
      first = λ other one below. c.loop-service.invariant bytes frames had are other below one;
    }

pub loop-service-preserved : goal.loop-service-preserved
loop-service-preserved c bytes frames had are =
    below_more _ _ (c.loop-service.invariant bytes frames had are) (λ one. c.has_other_window.ensures.same bytes frames had are c.if-has_other_window.false)
