use Rattle.std.proofs.Common.{◌≡◌, ◌∙◌, ◌+◌, [], ap, sym, subst}
use Rattle.frame_carrier.specs.Carrying.{IsAt, channel_packet, packet_count}
use Rattle.frame_carrier.specs.FrameTriplets.{frame_triplets}
use Rattle.frame_carrier.proofs.CarryingLemmas.{none_of, words_are}
use Rattle.frame_carrier.proofs.carrier.Carrier.put_words.Goals as goal
use Rattle.words_files.specs.CarriedWords.{carried_words, triplets_packet}

pub returns-then-is_empty-clause-bytes : goal.returns-then-is_empty-clause-bytes
returns-then-is_empty-clause-bytes c rate number count at =
    let packet : c.channel_packet-packet.result.items ≡ channel_packet count c.args.frame.now.blocks.items =
    c.channel_packet-packet.ensures.packet rate number count at ∙ ap (channel_packet count) c.deref.ensures.0 in
    let empty : c.channel_packet-packet.result.items ≡ [] = none_of c.channel_packet-packet.result.items c.if-is_empty.ensures in
    words_are rate number count c.args.self.now c.args.frame.now c.pass.new.self.rate c.channel_packet-packet.new.self.counter [] c.put_pairs.new.out.items at
    (c.pass.ensures.rate ∙ c.channel_packet-packet.ensures.kept.0) c.channel_packet-packet.ensures.kept.1 (sym empty ∙ packet) c.put_pairs.ensures

pub returns-then-is_empty-clause-next : goal.returns-then-is_empty-clause-next
returns-then-is_empty-clause-next c rate number count at =
    subst (λ l. IsAt rate (number + 1) (count + packet_count l) c.pass.new.self) c.deref.ensures.0
    (c.pass.ensures.next rate number (count + packet_count c.deref.result.now) (c.channel_packet-packet.ensures.next rate number count at))

pub returns-else-is_empty-clause-bytes : goal.returns-else-is_empty-clause-bytes
returns-else-is_empty-clause-bytes c rate number count at =
    let packet : c.channel_packet-packet.result.items ≡ channel_packet count c.args.frame.now.blocks.items =
    c.channel_packet-packet.ensures.packet rate number count at ∙ ap (channel_packet count) c.deref.ensures.0 in
    words_are rate number count c.args.self.now c.args.frame.now c.pass.new.self.rate c.channel_packet-packet.new.self.counter c.channel_packet-packet.result.items
    c.put_counted.new.out.items at
    (c.pass.ensures.rate ∙ c.channel_packet-packet.ensures.kept.0) c.channel_packet-packet.ensures.kept.1 packet
    (c.put_counted.ensures ∙ ap (λ triplets. carried_words (triplets_packet c.pass.new.self.rate c.channel_packet-packet.new.self.counter triplets))
    (c.deref-else-is_empty-2.ensures.0 ∙ c.frame_triplets-triplets.ensures.triplets ∙ ap (frame_triplets c.pass.new.self.rate c.args.frame.now) c.deref-else-is_empty.ensures.0))

pub returns-else-is_empty-clause-next : goal.returns-else-is_empty-clause-next
returns-else-is_empty-clause-next c rate number count at =
    subst (λ l. IsAt rate (number + 1) (count + packet_count l) c.pass.new.self) c.deref.ensures.0
    (c.pass.ensures.next rate number (count + packet_count c.deref.result.now) (c.channel_packet-packet.ensures.next rate number count at))
