use Rattle.std.proofs.Common.{◌≡◌, arith, sym, subst, ◌∙◌}
use Rattle.std.proofs.lemmas.List.Elements.{All-from_get_or}
use Rattle.anc_words.specs.WordsFiles.{IsPacketBytes}
use Rattle.anc_words.specs.Writing.{packet_bytes, packet_of}
use Rattle.anc_words.proofs.PacketLemmas.{IsByte, packet_bytes-is, user_bytes-packet_of}
use Rattle.anc_words.proofs.PutWords.{packet-put}
use Rattle.anc_words.proofs.packets.write_packet.Goals as goal

bytes-put : (c : goal.After-put_word) → c.put_word.new.out.items ≡ packet_bytes c.args.did c.args.sdid c.args.user.now
bytes-put c =
    packet-put c.args.did c.args.sdid c.from.result c.from-2.result c.checksum.result.value c.args.user.now c.args.out.now.items c.put_head-head.new.out.items c.put_user.new.out.items
    c.put_word.new.out.items c.requires.empty c.put_head-head.ensures.items c.put_user.ensures.items c.put_word.ensures.items (c.from.ensures ∙ c.put_head-head.ensures.sum)
    (c.from-2.ensures ∙ c.put_user.ensures.sum) c.checksum.ensures

pub returns-clause-bytes : goal.returns-clause-bytes
returns-clause-bytes c = bytes-put c

pub returns-clause-packet : goal.returns-clause-packet
returns-clause-packet c =
    let user = c.args.user.now in
    let is = packet_bytes-is c.args.did c.args.sdid user c.ranges.did.fits c.ranges.sdid.fits c.requires.few
    (All-from_get_or IsByte user 0 (λ k below. omega (arith, c.type_inv.user k))) in
    subst (IsPacketBytes (packet_of c.args.did c.args.sdid user)) (sym (bytes-put c)) is

pub returns-clause-carried : goal.returns-clause-carried
returns-clause-carried c =
    user_bytes-packet_of c.args.did c.args.sdid c.args.user.now (All-from_get_or IsByte c.args.user.now 0 (λ k below. omega (arith, c.type_inv.user k)))
