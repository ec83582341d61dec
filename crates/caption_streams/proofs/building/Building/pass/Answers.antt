use Rattle.caption_streams.proofs.BuilderLemmas.{passed}
use Rattle.caption_streams.proofs.building.Building.pass.Goals as goal

pub returns : goal.returns
returns c list placed frame is some at =
    passed list placed frame c.args.self.now c.next-self.new.self c.args.carrier c.next-self.result is some
    c.next-self.ensures.left c.next-self.ensures.ends c.next-self.ensures.gives at
