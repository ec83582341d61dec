use Rattle.std.proofs.Common.{rules, ◌≡◌, ◌||◌, true, false, [], ◌∷◌, ◌++◌, ap, append-nil, append_assoc, subst, sym, ◌∙◌}
use Rattle.cc_base.specs.Steps.{step_parts}
use Rattle.cc_base.specs.Syntax.{open_behind, parts_from, parts_of}
use Rattle.channel_packets.specs.ChannelPackets.{channel_triplets, continues_packet, starts}
use Rattle.channel_packets.specs.Readers as packets
use Rattle.channel_packets.specs.Reading.{packet_syntax}
use Rattle.service_blocks.specs.Readers as blocks
use Rattle.service_blocks.specs.Reading.{block_syntax}
use Rattle.services_files.specs.Events.{events_of}
use Rattle.cc_receiver.proofs.ChannelLemmas.{no_pieces, passes_over, takes_pieces}
use Rattle.cc_receiver.proofs.ServingLemmas.{heard_of_pieces, heard_other, one_taken, said_by, served_nothing, served_one, served_two, two_taken}
use Rattle.cc_receiver.proofs.services.Served.triplet.Goals as goal

pub returns-then-not-is_of_channel-clause-served : goal.returns-then-not-is_of_channel-clause-served
returns-then-not-is_of_channel-clause-served c before earlier last served heard =
    let other : (starts c.args.triplet || continues_packet c.args.triplet) ≡ false = Prim.search rules in
    served_nothing before earlier last c.args.triplet c.args.self.now (passes_over before c.args.triplet c.args.self.now.channel other served.heard)
    (heard_other before c.args.triplet other) served.leads

pub returns-in-Nothing-clause-served : goal.returns-in-Nothing-clause-served
returns-in-Nothing-clause-served c before earlier last served heard =
    let own : (starts c.args.triplet || continues_packet c.args.triplet) ≡ true = Prim.search rules in
    let says = c.step.ensures.says (channel_triplets before) served.heard.packets_read in
    let none = no_pieces c.step.result c.in-Nothing.is in
    let nothing = ap (λ ps. parts_of packet_syntax before ++ ps) none ∙ append-nil (parts_of packet_syntax before) in
    served_nothing before earlier last c.args.triplet (record {
      channel = record { packets = c.step.new.self; blocks = c.args.self.now.channel.blocks };
      services = c.args.self.now.services;
    }) (takes_pieces before c.args.triplet c.step.result (record { packets = c.step.new.self; blocks = c.args.self.now.channel.blocks }) own says
    (c.step.ensures.leads (channel_triplets before) served.heard.packets_read)
    (subst (λ ps. blocks.HasRead ps c.args.self.now.channel.blocks) (sym nothing) served.heard.blocks_read))
    (heard_of_pieces before c.args.triplet c.step.result says ∙ ap (parts_from block_syntax (open_behind block_syntax (parts_of packet_syntax before))) none) served.leads

pub returns-in-One-clause-served : goal.returns-in-One-clause-served
returns-in-One-clause-served c before earlier last served heard =
    let own : (starts c.args.triplet || continues_packet c.args.triplet) ≡ true = Prim.search rules in
    let says = c.step.ensures.says (channel_triplets before) served.heard.packets_read in
    let one : step_parts c.step.result ≡ c.in-One.piece ∷ [] = ap step_parts c.in-One.is in
    let pieces = parts_of packet_syntax before in
    let taken = one_taken before c.args.triplet c.step.result c.in-One.piece says one heard in
    record {
      heard = takes_pieces before c.args.triplet c.step.result c.piece.new.self.channel own says
          (subst (λ p. packets.HasRead (channel_triplets before ++ c.args.triplet ∷ []) p) (sym c.piece.ensures.packets)
          (c.step.ensures.leads (channel_triplets before) served.heard.packets_read))
          (subst (λ ps. blocks.HasRead (pieces ++ ps) c.piece.new.self.channel.blocks) (sym one) (c.piece.ensures.read pieces served.heard.blocks_read taken));
      leads = served_one before earlier last c.args.triplet c.step.result c.in-One.piece c.piece.new.self.services says one
          (c.piece.ensures.leads pieces earlier last served.heard.blocks_read served.leads);
    }

pub returns-in-Two-clause-served : goal.returns-in-Two-clause-served
returns-in-Two-clause-served c before earlier last served heard =
    let own : (starts c.args.triplet || continues_packet c.args.triplet) ≡ true = Prim.search rules in
    let says = c.step.ensures.says (channel_triplets before) served.heard.packets_read in
    let first = c.in-Two.first in
    let second = c.in-Two.second in
    let two : step_parts c.step.result ≡ first ∷ second ∷ [] = ap step_parts c.in-Two.is in
    let pieces = parts_of packet_syntax before in
    let (one_is, other_is) = two_taken before c.args.triplet c.step.result first second says two heard in
    let read = c.piece-in-Two.ensures.read pieces served.heard.blocks_read one_is in
    record {
      heard = takes_pieces before c.args.triplet c.step.result c.piece-in-Two-2.new.self.channel own says
          (subst (λ p. packets.HasRead (channel_triplets before ++ c.args.triplet ∷ []) p) (sym (c.piece-in-Two-2.ensures.packets ∙ c.piece-in-Two.ensures.packets))
          (c.step.ensures.leads (channel_triplets before) served.heard.packets_read))
          (subst (λ ps. blocks.HasRead ps c.piece-in-Two-2.new.self.channel.blocks)
          (append_assoc pieces (first ∷ []) (second ∷ []) ∙ ap (λ ps. pieces ++ ps) (sym two)) (c.piece-in-Two-2.ensures.read (pieces ++ first ∷ []) read other_is));
      leads = served_two before earlier last c.args.triplet c.step.result first second c.piece-in-Two-2.new.self.services says two
          (c.piece-in-Two-2.ensures.leads (pieces ++ first ∷ []) earlier (λ service. last service ++ events_of service (said_by pieces first)) read
          (c.piece-in-Two.ensures.leads pieces earlier last served.heard.blocks_read served.leads));
    }
