use Rattle.cc_receiver.proofs.ReceivedLemmas.{last_received}
use Rattle.cc_receiver.proofs.receiver.Receiver.rate.Goals as goal

pub returns : goal.returns
returns c = λ bytes earlier last had are. (last_received earlier last bytes c.args.self.now had are).rate
