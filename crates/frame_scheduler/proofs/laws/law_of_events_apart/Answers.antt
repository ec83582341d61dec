use Rattle.frame_scheduler.proofs.EventsApartLemmas.{events_apart}
use Rattle.frame_scheduler.proofs.laws.law_of_events_apart.Goals as goal

pub returns : goal.returns
returns c = λ list formed ruled channel. events_apart list ruled channel
