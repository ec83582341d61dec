use Rattle.std.proofs.Common.{rules, ◌++◌, sym}
use Rattle.std.specs.Prelude.{IsOk}
use Rattle.cc_receiver.proofs.TakenLemmas.{piece_ends}
use Rattle.cc_receiver.proofs.receiver.Receiver.read.Goals as goal

pub returns-then-self-frames-clause-ended : goal.returns-then-self-frames-clause-ended
returns-then-self-frames-clause-ended c = λ before had most.
    let ends = piece_ends before c.args.piece.now c.args.self.now c.take.new.self c.requires.some most had (c.take.ensures.received before had most) in
    ends.caption c.if-self-frames.true

pub returns-then-self-frames-clause-more : goal.returns-then-self-frames-clause-more
returns-then-self-frames-clause-more c = λ before had most _.
    let ends = piece_ends before c.args.piece.now c.args.self.now c.take.new.self c.requires.some most had (c.take.ensures.received before had most) in
    ends.one c.if-self-frames.true

pub returns-then-is_ok-clause-ended : goal.returns-then-is_ok-clause-ended
returns-then-is_ok-clause-ended c = λ before had most.
    let bytes = before ++ c.args.piece.now in
    let none = sym (c.in_ok-take.ensures.refusal before had most) in
    let now = c.take.ensures.received before had most in
    let ends = piece_ends before c.args.piece.now c.args.self.now c.take.new.self c.requires.some most had now in
    let ok : IsOk c.finish.result = Prim.search rules in
    let (packets, file) = c.finish.ensures.whole bytes (now.reached.leads none) ok in
    ends.foreign c.if-self-frames.false packets file none

pub returns-else-is_ok-clause-ended : goal.returns-else-is_ok-clause-ended
returns-else-is_ok-clause-ended c = λ before had most packets is.
    let bytes = before ++ c.args.piece.now in
    let none = sym (c.in_ok-take.ensures.refusal before had most) in
    let now = c.take.ensures.received before had most in
    let whole = c.finish.ensures.file bytes packets (now.reached.leads none) is in
    Prim.search rules
