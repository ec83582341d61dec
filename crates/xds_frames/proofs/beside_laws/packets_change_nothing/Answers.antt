use Rattle.xds_frames.proofs.XdsLemmas.{packets_change_nothing}
use Rattle.xds_frames.proofs.beside_laws.packets_change_nothing.Goals as goal

pub returns : goal.returns
returns c = packets_change_nothing
