use Rattle.service_blocks.proofs.ChannelLemmas.{channel_unique}
use Rattle.service_blocks.proofs.WrittenLemmas.{blocks_unique}
use Rattle.service_blocks.proofs.laws.blocks_are_cut_in_one_way.Goals as goal

pub returns-clause-blocks : goal.returns-clause-blocks
returns-clause-blocks c = λ room blocks others bytes are other. blocks_unique room blocks bytes are others other

pub returns-clause-channel : goal.returns-clause-channel
returns-clause-channel c = channel_unique
