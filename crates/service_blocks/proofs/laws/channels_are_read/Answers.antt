use Rattle.cc_base.proofs.SyntaxLemmas.{read_under-reads}
use Rattle.service_blocks.specs.Reading.{block_syntax}
use Rattle.service_blocks.proofs.ChannelLemmas.{channel_heard, channel_said}
use Rattle.service_blocks.proofs.laws.channels_are_read.Goals as goal

pub returns-clause-read : goal.returns-clause-read
returns-clause-read c = λ packets blocks triplets channel. (channel_heard packets blocks triplets channel).is

pub returns-clause-says : goal.returns-clause-says
returns-clause-says c = λ packets blocks triplets channel. (channel_heard packets blocks triplets channel).says

pub returns-clause-handed : goal.returns-clause-handed
returns-clause-handed c = λ verdict packets blocks triplets channel accepted.
    let said = channel_said packets blocks triplets channel in
    read_under-reads block_syntax 1 verdict _ _ said.behind said.reads accepted
