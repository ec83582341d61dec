use Rattle.std.proofs.Common.{◌+◌, arith}
use Rattle.lanes.proofs.EventLemmas.{over_later}
use Rattle.lanes.proofs.field_front.Front.place.Goals as goal

pub pass_events-requires-clause-front : goal.pass_events-requires-clause-front
pass_events-requires-clause-front c =
    record { within = c.requires.front.within; passed = over_later c.args.self.now.end c.max-self.result _ (omega arith) c.requires.front.passed }

pub returns-then-self-from-clause-front : goal.returns-then-self-from-clause-front
returns-then-self-from-clause-front c =
    let passed = c.pass_events.ensures.front in
    record { within = passed.within; passed = over_later c.pass_events.new.self.end (c.pass_events.new.self.end + c.from-2.result) _ (omega arith) passed.passed }
