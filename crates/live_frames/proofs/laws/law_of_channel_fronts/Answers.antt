use Rattle.live_frames.proofs.LawLemmas.{channel_front_kept}
use Rattle.live_frames.proofs.laws.law_of_channel_fronts.Goals as goal

pub returns : goal.returns
returns c = channel_front_kept
