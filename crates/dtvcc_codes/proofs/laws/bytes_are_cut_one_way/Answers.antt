use Rattle.dtvcc_codes.proofs.CutLemmas.{bytes_are_cut, cut_one_way}
use Rattle.dtvcc_codes.proofs.laws.bytes_are_cut_one_way.Goals as goal

pub returns-clause-cut : goal.returns-clause-cut
returns-clause-cut c = bytes_are_cut

pub returns-clause-one : goal.returns-clause-one
returns-clause-one c = cut_one_way
