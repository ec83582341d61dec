-- Triplets none of which counts and is one of channel packets: nothing is heard of them.
use Rattle.std.proofs.Common.{◌≡◌, ◌||◌, ◌<◌, if◌then◌else◌, Bool, true, false, List, [], ◌∷◌, ◌++◌, refl, ap, sym, subst, ◌∙◌, append-nil, append_assoc}
use Rattle.std.proofs.lemmas.List.Elements.{filter-append}
use Rattle.cc_base.specs.declared.rate.Rate.{Rate}
use Rattle.cc_base.specs.Steps.{step_parts}
use Rattle.cc_base.specs.Syntax.{open_behind, parts_from, parts_of}
use Rattle.cc_base.proofs.SyntaxLemmas.{parts_from-append}
use Rattle.cc_data.specs.declared.triplet.Triplet.{Triplet}
use Rattle.channel_packets.specs.ChannelPackets.{channel_triplets, continues_packet, starts}
use Rattle.channel_packets.specs.Readers as packets
use Rattle.channel_packets.specs.Reading.{Open, nothing_open, open_after, packet_syntax}
use Rattle.services_files.specs.Meaning.{Tick}
use Rattle.dtvcc_services.specs.Objects.{Events, all_ticks}
use Rattle.service_blocks.specs.Channels.{IsHeard, heard_behind}
use Rattle.service_blocks.specs.Readers as blocks
use Rattle.service_blocks.specs.Reading.{block_syntax}
use Rattle.service_blocks.proofs.ChannelLemmas.{heard_first}
use Rattle.services_files.specs.Events.{events_of}
use Rattle.services_files.proofs.EventLemmas.{heard_behind-append}
use Rattle.cc_receiver.specs.Channels.{HasHeard}
use Rattle.cc_receiver.specs.Counting.{HasFront}
use Rattle.cc_receiver.specs.Serving.{HasServed, followed_by, given_by}
use Rattle.cc_receiver.specs.declared.channel.Channel.{Channel}
use Rattle.cc_receiver.specs.declared.services.Served.{Served}
use Rattle.cc_receiver.proofs.ChannelLemmas.{passed_over}
use Rattle.cc_receiver.proofs.CountingLemmas.{none_channel}
use Rattle.cc_receiver.proofs.ServingLemmas.{leads_by}

-- they make no pieces
no_pieces_from : (front : Open) (triplets : List Triplet) → channel_triplets triplets ≡ [] → parts_from packet_syntax front triplets ≡ []
no_pieces_from front [] none = refl
no_pieces_from front (triplet ∷ triplets) none =
    let own = channel_triplets triplets in
    let cases : (b : Bool) → (starts triplet || continues_packet triplet) ≡ b → parts_from packet_syntax front (triplet ∷ triplets) ≡ [] = elim [
      | true ↦ λ is.
          let some : triplet ∷ own ≡ [] = ap (λ (b : Bool). if b then triplet ∷ own else own) (sym is) ∙ none in
          absurd cc
      | false ↦ λ is.
          let others : own ≡ [] = ap (λ (b : Bool). if b then triplet ∷ own else own) (sym is) ∙ none in
          let passed = passed_over front triplet is in
          ap (λ s. step_parts s ++ parts_from packet_syntax (open_after front triplet) triplets) passed.0
          ∙ ap (λ f. parts_from packet_syntax f triplets) passed.1 ∙ no_pieces_from front triplets others
    ] in cases _ refl

-- readers after them
silent_heard : (before triplets : List Triplet) (channel : Channel) → channel_triplets triplets ≡ [] → HasHeard before channel
    → HasHeard (before ++ triplets) channel
silent_heard before triplets channel none heard =
    let same = filter-append (λ triplet. starts triplet || continues_packet triplet) before triplets
    ∙ ap (λ ts. channel_triplets before ++ ts) none ∙ append-nil (channel_triplets before) in
    let parts = parts_from-append packet_syntax nothing_open before triplets
    ∙ ap (λ ps. parts_of packet_syntax before ++ ps) (no_pieces_from (open_behind packet_syntax before) triplets none) ∙ append-nil (parts_of packet_syntax before) in
    record {
      packets_read = subst (λ ts. packets.HasRead ts channel.packets) (sym same) heard.packets_read;
      blocks_read = subst (λ ps. blocks.HasRead ps channel.blocks) (sym parts) heard.blocks_read;
    }

-- readers after triplets that end with some none of which counts
pub heard_whole : (before front triplets : List Triplet) (channel : Channel) → HasFront front triplets → HasHeard (before ++ front) channel
    → HasHeard (before ++ triplets) channel
heard_whole before front triplets channel has heard =
    subst (λ ts. HasHeard ts channel) (append_assoc before front has.others ∙ ap (λ ts. before ++ ts) (sym has.joined))
    (silent_heard (before ++ front) has.others channel (none_channel has.others has.none) heard)

-- what is heard of them is heard of the front
heard_of_front : (before front triplets : List Triplet) → HasFront front triplets → heard_behind before front ≡ heard_behind before triplets
heard_of_front before front triplets has =
    let behind = before ++ front in
    let nothing : heard_behind behind has.others ≡ [] =
    ap (parts_from block_syntax (open_behind block_syntax (parts_of packet_syntax behind)))
    (no_pieces_from (open_behind packet_syntax behind) has.others (none_channel has.others has.none)) in
    sym (ap (heard_behind before) has.joined ∙ heard_behind-append before front has.others
    ∙ ap (λ parts. heard_behind before front ++ parts) nothing ∙ append-nil (heard_behind before front))

-- services to which a frame gave the front took the whole frame
pub served_whole : (rate : Rate) (front triplets : List Triplet) (old new : Served) → HasFront front triplets
    → ((before : List Triplet) (earlier last : Events) → HasServed before earlier last old → all_ticks old.services < 4294967295 → IsHeard (before ++ front)
    → HasServed (before ++ front) (followed_by earlier last) (given_by rate before front) new)
    → (before : List Triplet) (earlier last : Events) → HasServed before earlier last old → all_ticks old.services < 4294967295 → IsHeard (before ++ triplets)
    → HasServed (before ++ triplets) (followed_by earlier last) (given_by rate before triplets) new
served_whole rate front triplets old new has frame before earlier last served few heard =
    let all : before ++ triplets ≡ (before ++ front) ++ has.others = ap (λ ts. before ++ ts) has.joined ∙ sym (append_assoc before front has.others) in
    let own = frame before earlier last served few (heard_first (before ++ front) has.others (subst IsHeard all heard)) in record {
      heard = heard_whole before front triplets new.channel has own.heard;
      leads = leads_by (followed_by earlier last) (given_by rate before front) (given_by rate before triplets) new.services
          (λ service. ap (λ parts. Tick rate ∷ events_of service parts) (heard_of_front before front triplets has)) own.leads;
    }
