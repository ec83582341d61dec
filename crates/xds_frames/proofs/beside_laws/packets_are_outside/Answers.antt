use Rattle.xds_frames.proofs.PacketLemmas.{packets_outside}
use Rattle.xds_frames.proofs.beside_laws.packets_are_outside.Goals as goal

pub returns : goal.returns
returns c = packets_outside
