use Rattle.std.proofs.Common.{◌∙◌, arith}
use Rattle.std.proofs.lemmas.Grind.{common_steps}
use Rattle.dtvcc_screen.specs.Cores.{after_tick}
use Rattle.dtvcc_services.proofs.PassLemmas.{all_below, least_first, least_second, more_below, noted_before, noted_now}
use Rattle.dtvcc_services.proofs.passing.tick_all.Goals as goal

pub loop-place-preserved : goal.loop-place-preserved
loop-place-preserved c =
    record {
      below = more_below (after_tick c.args.clock) c.loop-place.next c.earlier-next.result c.loop-place.seen c.either-seen.result c.loop-place.place
          c.args.members.now c.loop-place.members c.index-members-place.result c.tick-changed.new.self c.loop-place.invariant.below
          (grind (arith, common_steps)) (least_first _ _ _ c.earlier-next.ensures) (noted_before _ _ _ c.either-seen.ensures)
          (record {
            stands = c.tick-changed.ensures.stands;
            ends = λ end is. least_second _ end _ _ c.earlier-next.ensures (c.until.ensures.end ∙ is);
            same = λ none. c.tick-changed.ensures.same (noted_now c.loop-place.seen _ _ c.either-seen.ensures none);
          });
    }

pub returns : goal.returns
returns c =
    all_below (after_tick c.args.clock) c.loop-place.next c.loop-place.seen c.loop-place.place c.args.members.now c.loop-place.members
    c.loop-place.invariant.below (grind (arith, common_steps))
