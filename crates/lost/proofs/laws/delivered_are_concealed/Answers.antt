use Rattle.lost.proofs.WordsLemmas.{delivered_concealed}
use Rattle.lost.proofs.laws.delivered_are_concealed.Goals as goal

pub returns : goal.returns
returns c = delivered_concealed
