use Rattle.lanes.specs.CueSlots.{cues_in_slots}
use Rattle.lanes.proofs.ChannelOrderLemmas.{channel_in_order}
use Rattle.frame_scheduler.proofs.planning.placed_channel.Goals as goal

pub place-requires-clause-order : goal.place-requires-clause-order
place-requires-clause-order c = rw c.in-Ok.ensures (channel_in_order c.args.channel (cues_in_slots c.of-cadence.result c.args.cues.now))
