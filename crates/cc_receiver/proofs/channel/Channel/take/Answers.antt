use Rattle.std.proofs.Common.{rules, ◌≡◌, ◌||◌, true, false, [], ◌∷◌, ◌++◌, ap, append-nil, append_assoc, subst, sym, ◌∙◌}
use Rattle.cc_base.specs.declared.step.Step.TheVariants.{One, Two}
use Rattle.cc_base.specs.Syntax.{open_behind, parts_of}
use Rattle.channel_packets.specs.ChannelPackets.{channel_triplets, continues_packet, starts}
use Rattle.channel_packets.specs.Readers as packets
use Rattle.channel_packets.specs.Reading.{judge_triplet, packet_syntax}
use Rattle.service_blocks.specs.Readers as blocks
use Rattle.cc_receiver.proofs.ChannelLemmas.{first_reason, no_pieces, one_reason, passes_over, second_reason, takes_pieces, why_of_pieces, why_pieces}
use Rattle.cc_receiver.proofs.channel.Channel.take.Goals as goal

pub returns-then-not-is_of_channel-clause-heard : goal.returns-then-not-is_of_channel-clause-heard
returns-then-not-is_of_channel-clause-heard c before heard none =
    let other : (starts c.args.triplet || continues_packet c.args.triplet) ≡ false = Prim.search rules in
    passes_over before c.args.triplet c.args.self.now other heard

pub returns-in-Nothing-clause-why : goal.returns-in-Nothing-clause-why
returns-in-Nothing-clause-why c before heard =
    ap (why_pieces before) (sym (no_pieces c.step.result c.in-Nothing.is))
    ∙ why_of_pieces before c.args.triplet c.step.result (c.step.ensures.says (channel_triplets before) heard.packets_read)

pub returns-in-Nothing-clause-heard : goal.returns-in-Nothing-clause-heard
returns-in-Nothing-clause-heard c before heard none =
    let own : (starts c.args.triplet || continues_packet c.args.triplet) ≡ true = Prim.search rules in
    let nothing = ap (λ ps. parts_of packet_syntax before ++ ps) (no_pieces c.step.result c.in-Nothing.is) ∙ append-nil (parts_of packet_syntax before) in
    takes_pieces before c.args.triplet c.step.result (record { packets = c.step.new.self; blocks = c.args.self.now.blocks }) own
    (c.step.ensures.says (channel_triplets before) heard.packets_read) (c.step.ensures.leads (channel_triplets before) heard.packets_read)
    (subst (λ ps. blocks.HasRead ps c.args.self.now.blocks) (sym nothing) heard.blocks_read)

pub returns-in-One-clause-why : goal.returns-in-One-clause-why
returns-in-One-clause-why c before heard =
    let is : One c.in-One.piece ≡ judge_triplet (open_behind packet_syntax (channel_triplets before)) c.args.triplet =
    sym c.in-One.is ∙ c.step.ensures.says (channel_triplets before) heard.packets_read in
    c.piece.ensures.why (parts_of packet_syntax before) heard.blocks_read ∙ one_reason before c.in-One.piece
    ∙ why_of_pieces before c.args.triplet (One c.in-One.piece) is

pub returns-in-One-clause-heard : goal.returns-in-One-clause-heard
returns-in-One-clause-heard c before heard none =
    let own : (starts c.args.triplet || continues_packet c.args.triplet) ≡ true = Prim.search rules in
    let is : One c.in-One.piece ≡ judge_triplet (open_behind packet_syntax (channel_triplets before)) c.args.triplet =
    sym c.in-One.is ∙ c.step.ensures.says (channel_triplets before) heard.packets_read in
    takes_pieces before c.args.triplet (One c.in-One.piece) c.piece.new.self own is
    (subst (λ p. packets.HasRead (channel_triplets before ++ c.args.triplet ∷ []) p) (sym c.piece.ensures.packets)
    (c.step.ensures.leads (channel_triplets before) heard.packets_read))
    (c.piece.ensures.read (parts_of packet_syntax before) heard.blocks_read none)

pub returns-in-None-clause-why : goal.returns-in-None-clause-why
returns-in-None-clause-why c before heard =
    let is : Two c.in-Two.first c.in-Two.second ≡ judge_triplet (open_behind packet_syntax (channel_triplets before)) c.args.triplet =
    sym c.in-Two.is ∙ c.step.ensures.says (channel_triplets before) heard.packets_read in
    let pieces = parts_of packet_syntax before in
    let read = c.piece-in-Two.ensures.read pieces heard.blocks_read c.in-None.is in
    c.piece-in-None.ensures.why (pieces ++ c.in-Two.first ∷ []) read
    ∙ second_reason before c.in-Two.first c.in-Two.second (sym c.in-None.is ∙ c.piece-in-Two.ensures.why pieces heard.blocks_read)
    ∙ why_of_pieces before c.args.triplet (Two c.in-Two.first c.in-Two.second) is

pub returns-in-None-clause-heard : goal.returns-in-None-clause-heard
returns-in-None-clause-heard c before heard none =
    let own : (starts c.args.triplet || continues_packet c.args.triplet) ≡ true = Prim.search rules in
    let is : Two c.in-Two.first c.in-Two.second ≡ judge_triplet (open_behind packet_syntax (channel_triplets before)) c.args.triplet =
    sym c.in-Two.is ∙ c.step.ensures.says (channel_triplets before) heard.packets_read in
    let pieces = parts_of packet_syntax before in
    let read = c.piece-in-Two.ensures.read pieces heard.blocks_read c.in-None.is in
    takes_pieces before c.args.triplet (Two c.in-Two.first c.in-Two.second) c.piece-in-None.new.self own is
    (subst (λ p. packets.HasRead (channel_triplets before ++ c.args.triplet ∷ []) p) (sym (c.piece-in-None.ensures.packets ∙ c.piece-in-Two.ensures.packets))
    (c.step.ensures.leads (channel_triplets before) heard.packets_read))
    (subst (λ ps. blocks.HasRead ps c.piece-in-None.new.self.blocks) (append_assoc pieces (c.in-Two.first ∷ []) (c.in-Two.second ∷ []))
    (c.piece-in-None.ensures.read (pieces ++ c.in-Two.first ∷ []) read none))

pub returns-in-Some-clause-why : goal.returns-in-Some-clause-why
returns-in-Some-clause-why c before heard =
    let is : Two c.in-Two.first c.in-Two.second ≡ judge_triplet (open_behind packet_syntax (channel_triplets before)) c.args.triplet =
    sym c.in-Two.is ∙ c.step.ensures.says (channel_triplets before) heard.packets_read in
    first_reason before c.in-Two.first c.in-Two.second c.in-Some.why
    (sym c.in-Some.is ∙ c.piece-in-Two.ensures.why (parts_of packet_syntax before) heard.blocks_read)
    ∙ why_of_pieces before c.args.triplet (Two c.in-Two.first c.in-Two.second) is
