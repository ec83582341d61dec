use Rattle.xds_frames.proofs.FreeLemmas.{captions_leave_free}
use Rattle.xds_frames.proofs.beside_laws.captions_leave_free.Goals as goal

pub returns : goal.returns
returns c = captions_leave_free
