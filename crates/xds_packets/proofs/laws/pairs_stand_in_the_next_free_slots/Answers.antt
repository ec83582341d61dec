use Rattle.xds_packets.proofs.FollowLemmas.{pairs_stand_in_the_next_free_slots}
use Rattle.xds_packets.proofs.laws.pairs_stand_in_the_next_free_slots.Goals as goal

pub returns : goal.returns
returns c = pairs_stand_in_the_next_free_slots
