use Rattle.cc_receiver.proofs.CountingLemmas.{front_taken}
use Rattle.cc_receiver.proofs.triplets.Triplets.front.Goals as goal

pub returns : goal.returns
returns c triplets has = front_taken triplets c.args.self.now has c.args.self.now.within
