use Rattle.services_shown.proofs.ChannelLemmas.{programmes_whole}
use Rattle.services_shown.proofs.laws.law_of_whole_programmes.Goals as goal

pub returns : goal.returns
returns c = programmes_whole
