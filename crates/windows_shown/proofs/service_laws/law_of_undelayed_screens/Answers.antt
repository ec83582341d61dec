use Rattle.windows_shown.proofs.FrameLemmas.{shows_opened, shows_undelayed}
use Rattle.windows_shown.proofs.service_laws.law_of_undelayed_screens.Goals as goal

pub returns : goal.returns
returns c = record {
  outside = λ lane frame sound outside. shows_undelayed lane sound frame outside;
  within = λ lane start frame delay sound on. shows_opened lane sound start frame delay on;
}
