use Rattle.xds_frames.proofs.BesideLemmas.{captions_beside}
use Rattle.xds_frames.proofs.beside_laws.captions_are_beside.Goals as goal

pub returns : goal.returns
returns c = captions_beside
