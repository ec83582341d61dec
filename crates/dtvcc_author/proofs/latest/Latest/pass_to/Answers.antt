use Rattle.dtvcc_author.proofs.LatestLemmas.{at_quiet}
use Rattle.dtvcc_author.proofs.latest.Latest.pass_to.Goals as goal

pub returns-then-self-frame : goal.returns-then-self-frame
returns-then-self-frame c from low at =
    at_quiet c.args.captions.now c.args.frame c.next_event-self.result c.load.new.self (c.load.ensures from low at) c.next_event-self.ensures
