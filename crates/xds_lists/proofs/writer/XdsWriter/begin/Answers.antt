use Rattle.std.proofs.Common.{◌+◌, ap, arith, drop, length}
use Rattle.xds_lists.specs.Seen.{listed_seen}
use Rattle.xds_lists.proofs.PackedLemmas.{next_text}
use Rattle.xds_lists.proofs.writer.XdsWriter.begin.Goals as goal

pub overflow_add-self : goal.overflow_add-self
overflow_add-self c = omega (arith, c.listed-packet.ensures.measured, ap length c.as_slice.ensures.bytes)

pub overflow_add-self-2 : goal.overflow_add-self-2
overflow_add-self-2 c = let there = c.is_due.ensures.there c.if-not-is_due.false in omega (arith, there.0, there.1)

pub invariant_of-self-2 : goal.invariant_of-self-2
invariant_of-self-2 c =
    let there = c.is_due.ensures.there c.if-not-is_due.false in
    let next = next_text c.args.self.now.list c.args.self.now.begun (listed_seen c.listed-packet.result) (drop (c.args.self.now.begun + 1) c.args.self.now.list) there.0 c.listed-packet.ensures.listed in
    record {
      within = omega (arith, there.0);
      starts = omega (arith, next, c.args.self.now.starts, ap length c.as_slice.ensures.bytes);
    }
