use Rattle.std.proofs.Common.{None, subst, sym}
use Rattle.frame_carrier.specs.Plan.{Plan}
use Rattle.frame_carrier.specs.OverlaidFrames.{overlay_of}
use Rattle.xds_frames.specs.PlanAnswer.{IsPlanned}
use Rattle.xds_frames.proofs.PlanLemmas.{again_laid, all_planned, lacks_room, round_told}
use Rattle.xds_frames.proofs.plan.plan_xds.Goals as goal

pub returns-in-Some : goal.returns-in-Some
returns-in-Some c =
    lacks_room c.args.list.now c.args.packets c.in-Ok.ensures.0 c.in-Ok.ensures.1 c.in-Ok.plan c.in-Ok-list_packets.laid c.in-Some.packet
    c.in-Ok.ensures.2 c.in-Ok.ensures.3 (c.in-Ok-list_packets.ensures.stand c.in-Ok.ensures.0) c.in-Some.ensures.room

pub returns-in-Ok-plan : goal.returns-in-Ok-plan
returns-in-Ok-plan c =
    let list = c.args.list.now in
    let listed = c.args.packets in
    let placed = c.in-Ok.ensures.0 in
    let is = c.in-Ok.ensures.1 in
    let round = c.in-Ok.plan in
    let laid = c.in-Ok-list_packets.laid in
    let stands = c.in-Ok-list_packets.ensures.stand placed in
    let room = round_told list listed placed is round laid None c.in-Ok.ensures.2 c.in-Ok.ensures.3 stands c.in_default.ensures.room in
    let again = again_laid list listed placed is round laid c.first_without_room.new.packets c.in-Ok.ensures.2 stands c.in_default.ensures.again in
    let both = all_planned list listed placed is c.in-Ok-plan.ensures.0 c.in-Ok-plan.plan c.first_without_room.new.packets room c.in-Ok-plan.ensures.1 c.in-Ok-plan.ensures.2
    c.in-Ok-plan.ensures.3 again in
    subst (λ (plan : Plan). IsPlanned c.args.list.now c.args.packets plan (overlay_of c.new.result)) (sym c.new.ensures.frames)
    (subst (IsPlanned c.args.list.now c.args.packets c.in-Ok-plan.plan) (sym c.new.ensures.overlay) both)
