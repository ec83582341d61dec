use Rattle.mcc_commands.proofs.TripLemmas.{come_back}
use Rattle.mcc_commands.proofs.round_trip_laws.words_come_back.Goals as goal

pub returns : goal.returns
returns c = come_back
