use Rattle.xds_frames.proofs.ListPacketsLemmas.{packets_laid}
use Rattle.xds_frames.proofs.laws.packets_are_laid.Goals as goal

pub returns : goal.returns
returns c = packets_laid
