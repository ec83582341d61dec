use Rattle.std.proofs.Common.{refl, sym, subst, ◌∙◌}
use Rattle.line21_codes.specs.declared.channels.Chan.TheVariants.{Cc1, Cc3}
use Rattle.frame_carrier.proofs.PlanLemmas.{planned_fits, planned_numbered, planned_start}
use Rattle.frame_carrier.specs.Plan.{Plan}
use Rattle.frame_carrier.specs.OverlaidFrames.{overlay_of}
use Rattle.dual_plans.specs.SecondLanes.{lanes_at_first}
use Rattle.dual_plans.specs.DualAnswer.{IsPlanned}
use Rattle.dual_plans.proofs.JoinedLemmas.{all_planned}
use Rattle.dual_plans.proofs.StandLemmas.{first_apart, first_stands, second_apart, second_stands}
use Rattle.dual_plans.proofs.plan.joined.Goals as goal

pub placed_lane-requires-clause-apart : goal.placed_lane-requires-clause-apart
placed_lane-requires-clause-apart c =
    first_apart c.args.first.now c.args.second.now Cc1 c.args.placed.one c.requires.placed.fields.one_is c.requires.together.ruled

pub placed_lane-requires-clause-stand : goal.placed_lane-requires-clause-stand
placed_lane-requires-clause-stand c =
    rw c.deref.ensures.value
    (first_stands c.args.first.now c.args.second.now Cc1 c.args.placed.one c.requires.placed.fields.one_is c.requires.together.formed c.requires.together.ruled)

pub placed_lane-requires-2-clause-apart : goal.placed_lane-requires-2-clause-apart
placed_lane-requires-2-clause-apart c =
    first_apart c.args.first.now c.args.second.now Cc3 c.args.placed.two c.requires.placed.fields.two_is c.requires.together.ruled

pub placed_lane-requires-2-clause-stand : goal.placed_lane-requires-2-clause-stand
placed_lane-requires-2-clause-stand c =
    rw c.deref-2.ensures.value
    (first_stands c.args.first.now c.args.second.now Cc3 c.args.placed.two c.requires.placed.fields.two_is c.requires.together.formed c.requires.together.ruled)

pub placed_lane-requires-3-clause-apart : goal.placed_lane-requires-3-clause-apart
placed_lane-requires-3-clause-apart c =
    second_apart c.args.first.now c.args.second.now Cc1 c.args.placed.one c.requires.placed.fields.one_is c.requires.together.second_ruled

pub placed_lane-requires-3-clause-stand : goal.placed_lane-requires-3-clause-stand
placed_lane-requires-3-clause-stand c =
    rw c.deref-3.ensures.value
    (second_stands c.args.first.now c.args.second.now Cc1 c.args.placed.one c.requires.placed.fields.one_is c.requires.together.second_formed
    c.requires.together.second_ruled c.args.seconds.now.one.items c.requires.seconds.one_is)

pub placed_lane-requires-4-clause-apart : goal.placed_lane-requires-4-clause-apart
placed_lane-requires-4-clause-apart c =
    second_apart c.args.first.now c.args.second.now Cc3 c.args.placed.two c.requires.placed.fields.two_is c.requires.together.second_ruled

pub placed_lane-requires-4-clause-stand : goal.placed_lane-requires-4-clause-stand
placed_lane-requires-4-clause-stand c =
    rw c.deref-4.ensures.value
    (second_stands c.args.first.now c.args.second.now Cc3 c.args.placed.two c.requires.placed.fields.two_is c.requires.together.second_formed
    c.requires.together.second_ruled c.args.seconds.now.two.items c.requires.seconds.two_is)

pub new-plan-requires-clause-at_first : goal.new-plan-requires-clause-at_first
new-plan-requires-clause-at_first c =
    planned_start c.args.first.now c.requires.together.formed c.requires.together.ruled c.args.placed.services.items c.requires.placed.services

pub new-plan-requires-clause-numbered : goal.new-plan-requires-clause-numbered
new-plan-requires-clause-numbered c =
    planned_numbered c.args.first.now c.requires.together.formed c.requires.together.ruled c.args.placed.services.items c.requires.placed.services

pub new-plan-requires-clause-room : goal.new-plan-requires-clause-room
new-plan-requires-clause-room c =
    planned_fits c.args.first.now c.requires.together.formed c.requires.together.ruled c.args.placed.services.items c.requires.placed.services

pub returns : goal.returns
returns c =
    let one = c.args.first.now in
    let two = c.args.second.now in
    subst (λ (plan : Plan). IsPlanned one two plan (overlay_of c.dual.result)) (sym c.dual.ensures.frames)
    (subst (IsPlanned one two c.new-plan.result) (sym (c.dual.ensures.overlay ∙ c.new-lanes.ensures))
    (all_planned one two c.requires.together c.args.placed c.requires.placed c.args.seconds.now c.requires.seconds c.new-plan.result
    (lanes_at_first c.in_ok-second_one.second_one c.in_ok-second_two.second_two c.rate-2.result) c.in_ok-first_one.first_one c.in_ok-first_two.first_two
    (record {
      first_is = rw c.deref.ensures.value at c.in_ok-first_one.ensures.lane;
      second_is = rw c.deref-3.ensures.value at c.in_ok-second_one.ensures.lane;
      first_at = c.in_ok-first_one.ensures.start;
      second_at = c.in_ok-second_one.ensures.start;
    })
    (record {
      first_is = rw c.deref-2.ensures.value at c.in_ok-first_two.ensures.lane;
      second_is = rw c.deref-4.ensures.value at c.in_ok-second_two.ensures.lane;
      first_at = c.in_ok-first_two.ensures.start;
      second_at = c.in_ok-second_two.ensures.start;
    })
    (record {
      lanes = c.new-plan.ensures.lanes;
      services = c.new-plan.ensures.services;
      rate = c.new-plan.ensures.rate ∙ c.rate.ensures;
      frame = c.new-plan.ensures.frame;
      left = c.new-plan.ensures.left ∙ c.frames.ensures;
    })
    c.rate-2.ensures refl))
