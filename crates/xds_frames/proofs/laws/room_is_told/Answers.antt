use Rattle.xds_frames.proofs.ListPacketsLemmas.{room_told}
use Rattle.xds_frames.proofs.laws.room_is_told.Goals as goal

pub returns : goal.returns
returns c = room_told
