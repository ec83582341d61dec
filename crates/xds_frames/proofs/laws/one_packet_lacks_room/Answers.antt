use Rattle.xds_frames.proofs.FrontLemmas.{one_lacks_room}
use Rattle.xds_frames.proofs.laws.one_packet_lacks_room.Goals as goal

pub returns : goal.returns
returns c = one_lacks_room
