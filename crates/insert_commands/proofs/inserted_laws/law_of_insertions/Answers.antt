use Rattle.insert_commands.proofs.SoundLemmas.{insertions_sound}
use Rattle.insert_commands.proofs.inserted_laws.law_of_insertions.Goals as goal

pub returns : goal.returns
returns c = insertions_sound
