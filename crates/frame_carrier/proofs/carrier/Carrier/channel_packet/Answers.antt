use Rattle.std.proofs.Common.{◌≡◌, ◌∙◌, ◌≤◌, length, ap, sym, subst, arith, rules}
use Rattle.std.specs.Prelude.{All}
use Rattle.frame_carrier.specs.Carrying.{channel_packet}
use Rattle.frame_carrier.proofs.CarryingLemmas.{IsKind, packet_few, packet_kinds, written_is}
use Rattle.frame_carrier.proofs.carrier.Carrier.channel_packet.Goals as goal

pub returns-then-not-is_empty-clause-few : goal.returns-then-not-is_empty-clause-few
returns-then-not-is_empty-clause-few c =
    let count = c.args.self.now.writer.number in
    let some : 1 ≤ length c.args.blocks.now = search rules in
    let is : c.write.new.out.items ≡ channel_packet count c.args.blocks.now = c.write.ensures.written count c.args.self.now.numbered ∙ written_is count c.args.blocks.now some in
    let few = packet_few count c.args.blocks.now in
    let size = ap length is in
    omega (arith, few, size, c.requires)

pub returns-then-not-is_empty-clause-kinds : goal.returns-then-not-is_empty-clause-kinds
returns-then-not-is_empty-clause-kinds c =
    let count = c.args.self.now.writer.number in
    let some : 1 ≤ length c.args.blocks.now = search rules in
    let is : c.write.new.out.items ≡ channel_packet count c.args.blocks.now = c.write.ensures.written count c.args.self.now.numbered ∙ written_is count c.args.blocks.now some in
    subst (All IsKind) (sym is) (packet_kinds count c.args.blocks.now)
