use Rattle.xds_commands.proofs.NoPacketsLemmas.{no_packets_built}
use Rattle.xds_commands.proofs.laws.no_packets_are_built.Goals as goal

pub returns : goal.returns
returns c = no_packets_built
