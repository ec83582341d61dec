use Rattle.service_blocks.proofs.ChannelLemmas.{stray_byte}
use Rattle.service_blocks.proofs.laws.a_byte_of_no_packet_is_passed_over.Goals as goal

pub returns : goal.returns
returns c = stray_byte
