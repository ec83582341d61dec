use Rattle.lost.proofs.ChannelLossLemmas.{seen_again}
use Rattle.lost.proofs.channel_laws.authored_is_seen_again.Goals as goal

pub returns : goal.returns
returns c = seen_again
