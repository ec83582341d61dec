use Rattle.dual_plans.proofs.CueEventLemmas.{channel_slots}
use Rattle.dual_plans.proofs.clash_laws.events_are_those_of_the_channel.Goals as goal

pub returns : goal.returns
returns c = channel_slots
