use Rattle.cdp_packets.specs.PacketTriplets.{packet_triplets}
use Rattle.cc_receiver.proofs.ReceivedLemmas.{last_received}
use Rattle.cc_receiver.proofs.receiver.Receiver.front_of_triplets.Goals as goal

pub returns : goal.returns
returns c = λ bytes earlier last had are. c.front.ensures (packet_triplets last) (last_received earlier last bytes c.args.self.now had are).triplets
