use Rattle.rate_convert.proofs.KeptLemmas.{show_the_same}
use Rattle.rate_convert.proofs.halved_laws.law_of_shown_halves.Goals as goal

pub returns : goal.returns
returns c = show_the_same
