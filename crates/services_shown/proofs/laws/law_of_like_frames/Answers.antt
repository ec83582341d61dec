use Rattle.services_shown.proofs.ToldLemmas.{like_frames}
use Rattle.services_shown.proofs.laws.law_of_like_frames.Goals as goal

pub returns : goal.returns
returns c = like_frames
