use Rattle.windows_shown.proofs.FrameLemmas.{nothing_held}
use Rattle.windows_shown.proofs.service_laws.law_outside_of_delays.Goals as goal

pub returns : goal.returns
returns c = λ lane frame sound outside. nothing_held lane sound frame outside
