use Rattle.std.proofs.Common.{◌≡◌, arith, length}
use Rattle.anc_words.specs.CaptionPackets.{caption_packet_size, carried_by}
use Rattle.anc_words.proofs.CaptionLemmas.{ahead-one_way}
use Rattle.caption_packets.proofs.FrameLemmas.{none_so}
use Rattle.caption_packets.proofs.reading.whole_packet.Goals as goal

pub returns-in_err-packet-clause-none : goal.returns-in_err-packet-clause-none
returns-in_err-packet-clause-none c =
    none_so c.from_residual.result (λ user ahead. let some = c.in_err-packet.ensures.none (length c.args.words.now) user ahead in absurd cc)

pub returns-then-size-words-clause-one : goal.returns-then-size-words-clause-one
returns-then-size-words-clause-one c = λ user ahead.
    let packet = c.in_ok-packet.packet in
    (ahead-one_way c.args.words.now (caption_packet_size packet) (length c.args.words.now) (carried_by packet) user c.in_ok-packet.ensures.packet ahead).1

pub returns-else-size-words-clause-none : goal.returns-else-size-words-clause-none
returns-else-size-words-clause-none c = λ user ahead.
    let packet = c.in_ok-packet.packet in
    let same : caption_packet_size packet ≡ length c.args.words.now =
    (ahead-one_way c.args.words.now (caption_packet_size packet) (length c.args.words.now) (carried_by packet) user c.in_ok-packet.ensures.packet ahead).0 in
    omega (arith, same)
