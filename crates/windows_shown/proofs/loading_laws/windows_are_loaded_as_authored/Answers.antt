use Rattle.windows_shown.proofs.AuthoredLemmas.{list_as_authored}
use Rattle.windows_shown.proofs.loading_laws.windows_are_loaded_as_authored.Goals as goal

pub returns : goal.returns
returns c = list_as_authored
