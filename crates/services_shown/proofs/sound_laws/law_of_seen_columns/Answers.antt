use Rattle.services_shown.proofs.SoundSeenLemmas.{columns_seen}
use Rattle.services_shown.proofs.sound_laws.law_of_seen_columns.Goals as goal

pub returns : goal.returns
returns c = columns_seen
