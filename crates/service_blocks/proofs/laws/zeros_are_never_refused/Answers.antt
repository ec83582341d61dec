use Rattle.service_blocks.proofs.ChannelLemmas.{half_heard, zero_heard}
use Rattle.service_blocks.proofs.laws.zeros_are_never_refused.Goals as goal

pub returns-clause-both : goal.returns-clause-both
returns-clause-both c = zero_heard

pub returns-clause-second : goal.returns-clause-second
returns-clause-second c = half_heard
