use Rattle.xds_frames.proofs.FrontLemmas.{room_lacks_none}
use Rattle.xds_frames.proofs.laws.room_lacks_none.Goals as goal

pub returns : goal.returns
returns c = room_lacks_none
