use Rattle.xds_commands.proofs.PacketListLemmas.{packets_refused}
use Rattle.xds_commands.proofs.packet_list.judge_packets.Goals as goal

pub returns-in-Ok : goal.returns-in-Ok
returns-in-Ok c = record { within = c.requires; spelled = c.in-Ok.ensures.spelled }

pub returns-in-Err : goal.returns-in-Err
returns-in-Err c = rw c.status_of_packets.ensures (packets_refused c.args.bytes.now c.in-Err.fault c.requires c.in-Err.ensures.fault)
