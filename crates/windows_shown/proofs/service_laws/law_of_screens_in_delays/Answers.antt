use Rattle.windows_shown.proofs.FrameLemmas.{screen_stays}
use Rattle.windows_shown.proofs.service_laws.law_of_screens_in_delays.Goals as goal

pub returns : goal.returns
returns c = λ lane start frame delay sound on. screen_stays lane sound start frame delay on
