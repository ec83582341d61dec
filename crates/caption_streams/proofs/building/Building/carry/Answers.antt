use Rattle.std.proofs.Common.{subst, sym}
use Rattle.caption_streams.specs.Builders.{IsCarriedNext, frame_in}
use Rattle.caption_streams.specs.declared.building.FrameForm.{FrameForm}
use Rattle.caption_streams.proofs.building.Building.carry.Goals as goal

pub returns-in-CcData-clause-next : goal.returns-in-CcData-clause-next
returns-in-CcData-clause-next c = λ list placed frame is.
    subst (λ (form : FrameForm). IsCarriedNext list placed frame (frame_in form list placed frame) c.args.self.now c.carry_cc_data.new.bytes.items c.carry_cc_data.result)
    (sym c.in-CcData.is) (c.carry_cc_data.ensures.next list placed frame is)
