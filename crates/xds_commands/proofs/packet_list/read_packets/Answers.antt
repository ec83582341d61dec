use Rattle.std.proofs.Common.{◌≡◌, Err, rules}
use Rattle.command_base.proofs.WholeInputLemmas.{judged, unread}
use Rattle.xds_commands.specs.PacketLists.{IsGoodPackets, IsRefusedPackets}
use Rattle.xds_commands.proofs.PacketListLemmas.{listed_of_good, packet_refusals}
use Rattle.xds_commands.proofs.packet_list.read_packets.Goals as goal

pub returns-clause-reads : goal.returns-clause-reads
returns-clause-reads g c =
    judged IsGoodPackets IsRefusedPackets packet_refusals _ _ _ _ c.in_ok-bytes.bytes.items c.judge_packets.result c.in_ok-bytes.ensures.bytes.2 c.in_ok-bytes.ensures.bytes.1 c.in_ok-bytes.ensures.bytes.0
    (rw c.deref.ensures.value at c.judge_packets.ensures)

pub returns-clause-listed : goal.returns-clause-listed
returns-clause-listed g c = listed_of_good _ c.judge_packets.result c.judge_packets.ensures

pub returns-in_err-bytes-clause-reads : goal.returns-in_err-bytes-clause-reads
returns-in_err-bytes-clause-reads g c =
    let answer : c.from_residual.result ≡ Err c.in_err-bytes.field-0.0 = search rules in
    rw answer (unread IsGoodPackets IsRefusedPackets (λ bytes long. long) _ _ _ _ c.in_err-bytes.field-0.0 c.in_err-bytes.ensures.bytes)
