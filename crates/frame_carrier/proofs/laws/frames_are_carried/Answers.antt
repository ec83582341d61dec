use Rattle.frame_carrier.proofs.CarriedLemmas.{frames_carried}
use Rattle.frame_carrier.proofs.laws.frames_are_carried.Goals as goal

pub returns : goal.returns
returns c = frames_carried
