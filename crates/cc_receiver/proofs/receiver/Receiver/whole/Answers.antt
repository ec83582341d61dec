use Rattle.std.proofs.Common.{arith, rules, ◌≡◌, take, sym, subst, ◌∙◌}
use Rattle.std.specs.Prelude.{IsTrue}
use Rattle.std.proofs.lemmas.List.{length-take}
use Rattle.anc_words.specs.CaptionPackets.{caption_packet_size, carried_by}
use Rattle.anc_words.specs.Packets.{user_bytes}
use Rattle.cdp_packets.specs.Packets.{IsCdp}
use Rattle.cc_receiver.specs.Wholes.{ReadsWhole}
use Rattle.cc_receiver.proofs.FeedLemmas.{bytes_fit, front_of}
use Rattle.cc_receiver.proofs.WholeLemmas.{reads_whole}
use Rattle.cc_receiver.proofs.receiver.Receiver.whole.Goals as goal

pub returns-clause-reads : goal.returns-clause-reads
returns-clause-reads c = λ before had.
    let packet = c.in_ok-packet.packet in
    let bytes = c.args.bytes.now in
    let ahead = c.in_ok-packet.ensures.packet in
    let closed : IsTrue c.is_closed.result = Prim.search rules in
    let right : IsTrue c.whole.result = Prim.search rules in
    let size = length-take (caption_packet_size packet) bytes in
    let user : take c.user_bytes-count.result c.user_bytes-count.new.out ≡ user_bytes ahead.packet =
    front_of c.user_bytes-count.new.out (carried_by packet) _ c.user_bytes-count.result c.user_bytes-count.ensures.bytes c.user_bytes-count.ensures.len ∙ sym ahead.user_is in
    subst (λ n. ReadsWhole before bytes n c.args.self.now (record { words = c.pass_over.new.self; captions = c.whole.new.self })) (sym c.size.ensures)
    (reads_whole before bytes (caption_packet_size packet) ahead.packet c.args.self.now (record { words = c.pass_over.new.self; captions = c.whole.new.self }) c.requires.few
    (bytes_fit bytes (λ k below. omega (arith, c.type_inv.bytes k))) had (c.is_closed.ensures.unrefused closed)
    (λ read. (c.is_closed.ensures.closed before read).0 closed) ahead.is_caption ahead.within ahead.is
    (λ caught keeps. let (frame, is, kept) = c.whole.ensures.frame caught keeps right in
    record { frame = frame; is_cdp = subst (IsCdp frame) user is; keeps = kept })
    (λ read nothing. c.pass_over.ensures.passed before (take (caption_packet_size packet) bytes) ahead.packet read nothing ahead.is (omega (arith, size, ahead.within))))
