use Rattle.scc_commands.proofs.ComeBackLemmas.{pairs_back}
use Rattle.scc_commands.proofs.laws.pairs_come_back.Goals as goal

pub returns : goal.returns
returns c = pairs_back
