use Rattle.std.proofs.Common.{refl}
use Rattle.xds_frames.proofs.LoadsLemmas.{stands_anew}
use Rattle.xds_frames.proofs.loads.Loads.restart.Goals as goal

pub returns : goal.returns
returns c = λ cues frame at. stands_anew cues _ at.spans_are at.ordered refl
