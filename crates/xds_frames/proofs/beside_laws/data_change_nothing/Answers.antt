use Rattle.xds_frames.proofs.OutsideLemmas.{data_nothing}
use Rattle.xds_frames.proofs.beside_laws.data_change_nothing.Goals as goal

pub returns : goal.returns
returns c = data_nothing
