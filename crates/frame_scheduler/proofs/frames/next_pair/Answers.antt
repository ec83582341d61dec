use Rattle.std.proofs.Common.{◌∙◌, sym}
use Rattle.frame_scheduler.proofs.NextFrameLemmas.{none_given}
use Rattle.frame_scheduler.proofs.frames.next_pair.Goals as goal

pub returns-else-has_slot_in : goal.returns-else-has_slot_in
returns-else-has_slot_in c =
    none_given c.args.cadence c.args.frame c.args.lanes.now c.args.index (sym c.has_slot_in.ensures.is ∙ c.if-has_slot_in.false)
