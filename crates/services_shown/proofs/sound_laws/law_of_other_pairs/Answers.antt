use Rattle.services_shown.proofs.OtherPairsLemmas.{other_pairs}
use Rattle.services_shown.proofs.sound_laws.law_of_other_pairs.Goals as goal

pub returns : goal.returns
returns c = other_pairs
