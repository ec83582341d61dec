use Rattle.xds_frames.proofs.XdsLemmas.{packets_are_read}
use Rattle.xds_frames.proofs.beside_laws.packets_are_read.Goals as goal

pub returns : goal.returns
returns c = packets_are_read
