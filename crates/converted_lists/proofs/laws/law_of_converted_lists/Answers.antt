use Rattle.converted_lists.proofs.FitLemmas.{lists_fit}
use Rattle.converted_lists.proofs.laws.law_of_converted_lists.Goals as goal

pub returns : goal.returns
returns c = lists_fit
