use Rattle.live_frames.proofs.LiveLemmas.{stepped}
use Rattle.live_frames.proofs.live.Live.next.Goals as goal

pub returns-in-Some-clause-gives : goal.returns-in-Some-clause-gives
returns-in-Some-clause-gives c given list has =
    stepped given c.put_words.new.out.items list c.args.self.now.list c.args.self.now.plan c.next.new.self c.args.self.now.carrier c.put_words.new.self
    c.args.self.now.frame c.in-Some.frame has c.in-Some.ensures.left c.in-Some.ensures.gives c.put_words.ensures.bytes c.put_words.ensures.next
