use Rattle.std.proofs.Common.{◌∙◌}
use Rattle.cc_receiver.proofs.ReceivedLemmas.{last_received}
use Rattle.cc_receiver.proofs.receiver.Receiver.pairs_two.Goals as goal

pub returns : goal.returns
returns c = λ bytes earlier last had are. c.as_slice.ensures.value ∙ (last_received earlier last bytes c.args.self.now had are).pairs_two
