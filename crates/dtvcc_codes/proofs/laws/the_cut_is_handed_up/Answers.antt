use Rattle.dtvcc_codes.proofs.CutLemmas.{cut_is_handed}
use Rattle.dtvcc_codes.proofs.laws.the_cut_is_handed_up.Goals as goal

pub returns : goal.returns
returns c = cut_is_handed
