use Rattle.windows_shown.proofs.LoadingLemmas.{window_load}
use Rattle.windows_shown.proofs.loading_laws.windows_are_defined_and_written.Goals as goal

pub returns : goal.returns
returns c = window_load
