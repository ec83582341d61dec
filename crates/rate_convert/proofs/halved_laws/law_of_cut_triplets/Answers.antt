use Rattle.rate_convert.proofs.CutLemmas.{triplets_cut}
use Rattle.rate_convert.proofs.halved_laws.law_of_cut_triplets.Goals as goal

pub returns : goal.returns
returns c = triplets_cut
