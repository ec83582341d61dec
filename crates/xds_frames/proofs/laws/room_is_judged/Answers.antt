use Rattle.xds_frames.proofs.ListPacketsLemmas.{room_judged}
use Rattle.xds_frames.proofs.laws.room_is_judged.Goals as goal

pub returns : goal.returns
returns c = room_judged
