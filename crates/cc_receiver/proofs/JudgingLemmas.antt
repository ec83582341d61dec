-- The whole triplets of parts of distribution packets, for what judges them.
use Rattle.std.proofs.Common.{◌≡◌, List, [], ◌∷◌, ◌++◌, map, reverse, refl, ap, sym, subst, ◌∙◌, append-nil}
use Rattle.std.specs.List.{flat_map}
use Rattle.std.proofs.lemmas.Grind.{flat_map-append}
use Rattle.std.proofs.lemmas.List.{reverse-append}
use Rattle.cdp_packets.specs.declared.parts.CdpPart.{CdpPart}
use Rattle.cdp_packets.specs.PacketParts.{packet_parts}
use Rattle.cdp_packets.specs.PacketTriplets.{packet_triplets}
use Rattle.cdp_packets.specs.Packets.{Frame}
use Rattle.services_files.specs.Services.{whole_triplet, whole_triplets}
use Rattle.services_files.proofs.TakenLemmas.{whole_triplets-append}
use Rattle.services_files.proofs.WholeFileLemmas.{frames_whole}
use Rattle.cc_receiver.specs.Channels.{HasHeard, HasTried, frames_parts}
use Rattle.cc_receiver.specs.declared.channel.Channel.{Channel}

-- the triplets of one more part
one_more : (before : List CdpPart) (next : CdpPart) → whole_triplets (before ++ next ∷ []) ≡ whole_triplets before ++ whole_triplet next
one_more before next = whole_triplets-append before (next ∷ []) ∙ ap (λ ts. whole_triplets before ++ ts) (append-nil (whole_triplet next))

-- frames with one more
pub frames_more : (frames : List (List CdpPart)) (parts : List CdpPart) → frames_parts (parts ∷ frames) ≡ frames_parts frames ++ parts
frames_more frames parts =
    ap (flat_map (λ ps. ps)) (reverse-append (parts ∷ []) frames)
    ∙ flat_map-append (λ ps. ps) (reverse frames) (parts ∷ [])
    ∙ ap (λ ps. frames_parts frames ++ ps) (append-nil parts)

pub tried_frame : (frames : List (List CdpPart)) (parts : List CdpPart) (channel : Channel) → HasTried (frames_parts frames ++ parts) channel
    → HasTried (frames_parts (parts ∷ frames)) channel
tried_frame frames parts channel tried = subst (λ ps. HasTried ps channel) (sym (frames_more frames parts)) tried

-- a whole packet
pub tried_packet : (frames : List (List CdpPart)) (frame : Frame) (channel : Channel) → HasHeard (whole_triplets (frames_parts frames) ++ packet_triplets frame) channel
    → HasTried (frames_parts (packet_parts frame ∷ frames)) channel
tried_packet frames frame channel heard =
    let own : whole_triplets (packet_parts frame) ≡ packet_triplets frame =
    ap whole_triplets (sym (append-nil (packet_parts frame))) ∙ frames_whole (frame ∷ []) ∙ append-nil (packet_triplets frame) in
    let all : whole_triplets (frames_parts (packet_parts frame ∷ frames)) ≡ whole_triplets (frames_parts frames) ++ packet_triplets frame =
    ap whole_triplets (frames_more frames (packet_parts frame)) ∙ whole_triplets-append (frames_parts frames) (packet_parts frame)
    ∙ ap (λ ts. whole_triplets (frames_parts frames) ++ ts) own in
    subst (λ ts. HasHeard ts channel) (sym all) heard

-- the parts of frames that are packets
pub packets_parts : (frames : List Frame) → frames_parts (reverse (map packet_parts frames)) ≡ flat_map packet_parts frames
packets_parts [] = refl
packets_parts (frame ∷ frames) =
    ap frames_parts (reverse-append (packet_parts frame ∷ []) (map packet_parts frames))
    ∙ before_all (reverse (map packet_parts frames)) (packet_parts frame)
    ∙ ap (λ ps. packet_parts frame ++ ps) (packets_parts frames)
  where
    before_all : (frames : List (List CdpPart)) (parts : List CdpPart) → frames_parts (frames ++ parts ∷ []) ≡ parts ++ frames_parts frames
    before_all frames parts = ap (flat_map (λ ps. ps)) (reverse-append frames (parts ∷ []))
