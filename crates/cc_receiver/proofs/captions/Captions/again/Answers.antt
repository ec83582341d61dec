use Rattle.std.proofs.Common.{rules, ◌≡◌, length, sym, arith}
use Rattle.cdp_packets.specs.PacketParts.{packet_parts}
use Rattle.cdp_packets.specs.PacketTriplets.{packet_triplets}
use Rattle.services_files.specs.Services.{whole_triplets}
use Rattle.cc_receiver.specs.Channels.{frames_parts}
use Rattle.cc_receiver.proofs.JudgingLemmas.{tried_packet}
use Rattle.cc_receiver.proofs.SaysLemmas.{kept_of}
use Rattle.cc_receiver.proofs.SilentLemmas.{heard_whole}
use Rattle.cc_receiver.proofs.captions.Captions.again.Goals as goal

pub returns-clause-frame : goal.returns-clause-frame
returns-clause-frame c = λ caught frame keeps are says _.
    let before = whole_triplets (frames_parts caught.frames) in
    let own = c.args.self.now.last.triplets in
    let kept = c.requires.are frame.sections are (sym says.sections) in
    let long : length own.cells ≡ 81 = omega arith in
    let has = kept_of (packet_triplets frame) own kept.items kept.behind own.within own.few long in
    c.act.ensures caught (packet_parts frame) c.args.self.now.gathered c.args.self.now.last c.args.self.now.judging c.args.self.now.channel keeps
    (c.head.ensures frame are says)
    (tried_packet caught.frames frame c.takes.new.self
    (heard_whole before c.front.result.now (packet_triplets frame) c.takes.new.self (c.front.ensures (packet_triplets frame) has)
    (c.takes.ensures before keeps.channel (Prim.search rules))))
