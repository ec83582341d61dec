use Rattle.words_commands.proofs.PacketLinesLemmas.{ended_written}
use Rattle.words_commands.proofs.packet_lines.write_ended.Goals as goal

pub returns-in-Some : goal.returns-in-Some
returns-in-Some g c = ended_written _ _ c.args.ended.now _ c.args.frame c.in-Some.is c.write_packet.ensures
