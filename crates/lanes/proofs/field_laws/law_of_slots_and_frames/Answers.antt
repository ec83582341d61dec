use Rattle.lanes.specs.FieldLane.{field_lane}
use Rattle.lanes.proofs.SlotPlacingLemmas.{every_earliest}
use Rattle.lanes.proofs.field_laws.law_of_slots_and_frames.Goals as goal

pub returns : goal.returns
returns c = λ events. every_earliest (field_lane events)
