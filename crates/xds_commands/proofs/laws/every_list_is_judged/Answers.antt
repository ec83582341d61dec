use Rattle.xds_commands.proofs.EveryLemmas.{xds_judged}
use Rattle.xds_commands.proofs.laws.every_list_is_judged.Goals as goal

pub returns : goal.returns
returns c = xds_judged
