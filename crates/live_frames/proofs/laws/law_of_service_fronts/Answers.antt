use Rattle.live_frames.proofs.LawLemmas.{service_front_kept}
use Rattle.live_frames.proofs.laws.law_of_service_fronts.Goals as goal

pub returns : goal.returns
returns c = service_front_kept
