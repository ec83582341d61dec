use Rattle.std.proofs.Common.{arith}
use Rattle.xds_lists.proofs.WriterLemmas.{due_there}
use Rattle.xds_lists.proofs.writer.XdsWriter.is_due.Goals as goal

pub returns-then-self-len : goal.returns-then-self-len
returns-then-self-len c = record {
  due = due_there c.args.frame c.frame.result c.args.self.now.begun c.args.self.now.list (omega (arith, c.if-self-len.true, c.len.ensures.value)) c.frame.ensures;
  there = λ due. (omega (arith, c.if-self-len.true, c.len.ensures.value), omega (arith, c.len.ensures.value, c.len.ensures.few));
}
