use Rattle.service_blocks.proofs.ChannelLemmas.{heard_channel, heard_first, unheard}
use Rattle.service_blocks.proofs.laws.what_is_read_is_a_channel.Goals as goal

pub returns-clause-channel : goal.returns-clause-channel
returns-clause-channel c = heard_channel

pub returns-clause-first : goal.returns-clause-first
returns-clause-first c = heard_first

pub returns-clause-refused : goal.returns-clause-refused
returns-clause-refused c = unheard
