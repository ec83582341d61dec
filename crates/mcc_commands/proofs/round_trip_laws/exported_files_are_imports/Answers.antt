use Rattle.mcc_commands.proofs.TripLemmas.{exported_again}
use Rattle.mcc_commands.proofs.round_trip_laws.exported_files_are_imports.Goals as goal

pub returns : goal.returns
returns c = exported_again
