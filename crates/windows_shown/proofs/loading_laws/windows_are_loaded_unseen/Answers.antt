use Rattle.windows_shown.proofs.LoadingLemmas.{commands_hidden}
use Rattle.windows_shown.proofs.loading_laws.windows_are_loaded_unseen.Goals as goal

pub returns : goal.returns
returns c = commands_hidden
