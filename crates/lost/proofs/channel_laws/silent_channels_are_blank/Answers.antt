use Rattle.lost.proofs.ChannelLossLemmas.{silent_blank}
use Rattle.lost.proofs.channel_laws.silent_channels_are_blank.Goals as goal

pub returns : goal.returns
returns c = silent_blank
