use Rattle.std.proofs.Common.{◌≡◌, length, subst, ◌∙◌, ap, arith}
use Rattle.cc_base.specs.Syntax.{open_behind, parts_of}
use Rattle.cc_base.proofs.SyntaxLemmas.{read_under-none}
use Rattle.cdp_packets.specs.PacketParts.{packet_parts}
use Rattle.cdp_packets.specs.Reading.{cdp_syntax, nothing_open}
use Rattle.cdp_packets.proofs.ReadLemmas.{behind_read, packet_read}
use Rattle.cdp_packets.proofs.SoundLemmas.{bytes_behind-is, sound}
use Rattle.cdp_packets.proofs.laws.what_is_read_is_a_packet.Goals as goal

pub returns-clause-packet : goal.returns-clause-packet
returns-clause-packet c size bytes can all read =
    let (packet, is) = sound size bytes can all read in
    (packet, is, subst (λ n. parts_of (cdp_syntax n) bytes ≡ packet_parts packet) all (packet_read packet bytes is).made)

pub returns-clause-behind : goal.returns-clause-behind
returns-clause-behind c size bytes more can all read =
    behind_read size (open_behind (cdp_syntax size) bytes) more can (ap length (bytes_behind-is size bytes nothing_open (omega (arith, all))) ∙ all)

pub returns-clause-unrefused : goal.returns-clause-unrefused
returns-clause-unrefused c size verdict bytes none = read_under-none (cdp_syntax size) 1 verdict bytes none
