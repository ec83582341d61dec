use Rattle.std.proofs.Common.{arith}
use Rattle.std.proofs.lemmas.Grind.{common_steps}
use Rattle.dtvcc_screen.specs.Cores.{clean}
use Rattle.dtvcc_services.proofs.PassLemmas.{all_below, clean_waits, more_below, noted_before, noted_now}
use Rattle.dtvcc_services.proofs.passing.reset_all.Goals as goal

pub loop-place-preserved : goal.loop-place-preserved
loop-place-preserved c =
    record {
      below = λ next. more_below (λ state. clean) next next c.loop-place.seen c.either-seen.result c.loop-place.place
          c.args.members.now c.loop-place.members c.index-members-place.result c.reset-changed.new.self (c.loop-place.invariant.below next)
          (grind (arith, common_steps)) (omega arith) (noted_before _ _ _ c.either-seen.ensures)
          (record {
            stands = λ state stands. c.reset-changed.ensures.clean;
            ends = clean_waits c.reset-changed.new.self next c.reset-changed.ensures.clean;
            same = λ none. c.reset-changed.ensures.same (noted_now c.loop-place.seen _ _ c.either-seen.ensures none);
          });
    }

pub returns : goal.returns
returns c = λ next.
    all_below (λ state. clean) next c.loop-place.seen c.loop-place.place c.args.members.now c.loop-place.members
    (c.loop-place.invariant.below next) (grind (arith, common_steps))
