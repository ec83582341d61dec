use Rattle.converted_lists.proofs.SoundLaneLemmas.{lanes_good}
use Rattle.converted_lists.proofs.laws.law_of_sound_lanes.Goals as goal

pub returns : goal.returns
returns c = lanes_good
