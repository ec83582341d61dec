use Rattle.rate_convert.proofs.ConvertedLemmas.{halves_ten}
use Rattle.rate_convert.proofs.halved_laws.law_of_ten_triplets.Goals as goal

pub returns : goal.returns
returns c = halves_ten
