-- The services take the parts of just those frames that carry a caption channel.
use Rattle.std.proofs.Common.{◌≡◌, ℕ, List, [], ◌∷◌, ◌++◌, map, Bool, true, false, ◌==◌, if◌then◌else◌, refl, ap, sym, subst, ◌∙◌, append_assoc, append-nil}
use Rattle.std.specs.List.{flat_map}
use Rattle.cc_base.specs.Steps.{AreAccepted}
use Rattle.cc_data.specs.declared.triplet.Triplet.{Triplet}
use Rattle.cc_data.specs.Triplets.{triplet_of, triplets_of}
use Rattle.cdp_packets.specs.declared.parts.CdpPart.{CdpPart}
use Rattle.cdp_packets.specs.declared.parts.CdpPart.TheVariants as part
use Rattle.cdp_packets.specs.PacketParts.{packet_parts, section_parts, triplet_parts}
use Rattle.cdp_packets.specs.Packets.{Frame}
use Rattle.cdp_packets.specs.PacketTriplets.{packet_triplets, section_triplets}
use Rattle.service_blocks.specs.Channels.{IsHeard}
use Rattle.service_blocks.proofs.ChannelLemmas.{channel_heard, half_heard, heard_channel, heard_first, heard_pieces}
use Rattle.services_files.specs.Services.{services_say, whole_triplets}
use Rattle.services_files.specs.CarriedChannel.{CarryChannel, file_triplets}
use Rattle.services_files.proofs.FillingLemmas.{accepted_heard}
use Rattle.services_files.proofs.TakenLemmas.{AreTaken, taken-accepted, taken-append, whole_triplets-append}

-- the whole triplets of a packet's parts are its triplets
triplets_whole : (bytes : List ℕ) → whole_triplets (triplet_parts bytes) ≡ triplets_of bytes
triplets_whole [] = refl
triplets_whole (first ∷ []) = refl
triplets_whole (first ∷ second ∷ []) = refl
triplets_whole (first ∷ second ∷ third ∷ rest) = ap (λ ts. triplet_of first second third ∷ ts) (triplets_whole rest)

bytes_whole : (bytes : List ℕ) → whole_triplets (map part.SectionByte bytes) ≡ []
bytes_whole [] = refl
bytes_whole (byte ∷ bytes) = bytes_whole bytes

body_whole : (test : Bool) (rest : List ℕ)
    → whole_triplets (if test then triplet_parts rest else map part.SectionByte rest) ≡ (if test then triplets_of rest else [])
body_whole true rest = triplets_whole rest
body_whole false rest = bytes_whole rest

section_whole : (section : List ℕ) → whole_triplets (section_parts section) ≡ section_triplets section
section_whole [] = refl
section_whole (id ∷ []) = refl
section_whole (id ∷ second ∷ rest) = body_whole (id == 0x72) rest

sections_whole : (sections : List (List ℕ)) → whole_triplets (flat_map section_parts sections) ≡ flat_map section_triplets sections
sections_whole [] = refl
sections_whole (section ∷ sections) =
    whole_triplets-append (section_parts section) (flat_map section_parts sections)
    ∙ ap (λ ts. ts ++ whole_triplets (flat_map section_parts sections)) (section_whole section)
    ∙ ap (λ ts. section_triplets section ++ ts) (sections_whole sections)

packet_whole : (frame : Frame) → whole_triplets (packet_parts frame) ≡ packet_triplets frame
packet_whole frame =
    whole_triplets-append (flat_map section_parts frame.sections) (part.End ∷ [])
    ∙ append-nil (whole_triplets (flat_map section_parts frame.sections)) ∙ sections_whole frame.sections

pub frames_whole : (frames : List Frame) → whole_triplets (flat_map packet_parts frames) ≡ file_triplets frames
frames_whole [] = refl
frames_whole (frame ∷ frames) =
    whole_triplets-append (packet_parts frame) (flat_map packet_parts frames)
    ∙ ap (λ ts. ts ++ whole_triplets (flat_map packet_parts frames)) (packet_whole frame)
    ∙ ap (λ ts. packet_triplets frame ++ ts) (frames_whole frames)

-- parts are taken wherever their whole triplets are heard
abbrev AreTakenWhole : List CdpPart → Type 0
AreTakenWhole parts = (triplets : List Triplet) → IsHeard (triplets ++ whole_triplets parts) → AreTaken triplets parts

whole-append : (parts more : List CdpPart) → AreTakenWhole parts → AreTakenWhole more → AreTakenWhole (parts ++ more)
whole-append parts more one two triplets heard =
    let all : IsHeard ((triplets ++ whole_triplets parts) ++ whole_triplets more) =
    subst IsHeard (ap (λ ts. triplets ++ ts) (whole_triplets-append parts more) ∙ sym (append_assoc triplets (whole_triplets parts) (whole_triplets more))) heard in
    taken-append triplets parts more (one triplets (heard_first (triplets ++ whole_triplets parts) (whole_triplets more) all))
    (two (triplets ++ whole_triplets parts) all)

nothing_taken : AreTakenWhole []
nothing_taken triplets heard = tt

rate_taken : (frame : Frame) → AreTakenWhole (part.Rate frame.rate ∷ part.Flags frame.flags ∷ part.Counter frame.counter ∷ [])
rate_taken frame triplets heard = (tt, (tt, (tt, tt)))

byte_taken : (byte : ℕ) → AreTakenWhole (part.SectionByte byte ∷ [])
byte_taken byte triplets heard = (tt, tt)

end_taken : AreTakenWhole (part.End ∷ [])
end_taken triplets heard = (tt, tt)

-- a triplet's parts: its half is heard where it is
triplet_taken : (first second third : ℕ)
    → AreTakenWhole (part.Half (triplet_of first second 0) ∷ part.SectionByte third ∷ part.Triplet (triplet_of first second third) ∷ [])
triplet_taken first second third triplets heard =
    let triplet = triplet_of first second third in
    let same : triplets ≡ (triplets ++ []) ++ [] = simp append-nil in (
      (heard_pieces triplets (triplet_of first second 0 ∷ []) (half_heard triplets triplet heard)).1,
      (tt, (subst (λ ts. AreTaken ts (part.Triplet triplet ∷ [])) same ((heard_pieces triplets (triplet ∷ []) heard).1, tt))),
    )

triplets_taken : (bytes : List ℕ) → AreTakenWhole (triplet_parts bytes)
triplets_taken [] = nothing_taken
triplets_taken (first ∷ []) = nothing_taken
triplets_taken (first ∷ second ∷ []) = nothing_taken
triplets_taken (first ∷ second ∷ third ∷ rest) =
    let triplet = triplet_of first second third in
    let parts = part.Half (triplet_of first second 0) ∷ part.SectionByte third ∷ part.Triplet triplet ∷ [] in
    whole-append (part.SectionByte first ∷ []) (part.SectionByte second ∷ (parts ++ triplet_parts rest)) (byte_taken first)
    (whole-append (part.SectionByte second ∷ []) (parts ++ triplet_parts rest) (byte_taken second)
    (whole-append parts (triplet_parts rest) (triplet_taken first second third) (triplets_taken rest)))

bytes_taken : (bytes : List ℕ) → AreTakenWhole (map part.SectionByte bytes)
bytes_taken [] = nothing_taken
bytes_taken (byte ∷ bytes) = whole-append (part.SectionByte byte ∷ []) (map part.SectionByte bytes) (byte_taken byte) (bytes_taken bytes)

body_taken : (test : Bool) (rest : List ℕ) → AreTakenWhole (if test then triplet_parts rest else map part.SectionByte rest)
body_taken true rest = triplets_taken rest
body_taken false rest = bytes_taken rest

section_taken : (section : List ℕ) → AreTakenWhole (section_parts section)
section_taken [] = nothing_taken
section_taken (id ∷ []) = nothing_taken
section_taken (id ∷ second ∷ rest) =
    let body : List CdpPart = if id == 0x72 then triplet_parts rest else map part.SectionByte rest in
    whole-append (part.SectionByte id ∷ []) (part.SectionByte second ∷ body) (byte_taken id)
    (whole-append (part.SectionByte second ∷ []) body (byte_taken second) (body_taken (id == 0x72) rest))

sections_taken : (sections : List (List ℕ)) → AreTakenWhole (flat_map section_parts sections)
sections_taken [] = nothing_taken
sections_taken (section ∷ sections) =
    whole-append (section_parts section) (flat_map section_parts sections) (section_taken section) (sections_taken sections)

packet_taken : (frame : Frame) → AreTakenWhole (packet_parts frame)
packet_taken frame =
    let sections = flat_map section_parts frame.sections in
    whole-append (part.Rate frame.rate ∷ part.Flags frame.flags ∷ part.Counter frame.counter ∷ []) (sections ++ part.End ∷ []) (rate_taken frame)
    (whole-append sections (part.End ∷ []) (sections_taken frame.sections) end_taken)

frames_taken : (frames : List Frame) → AreTakenWhole (flat_map packet_parts frames)
frames_taken [] = nothing_taken
frames_taken (frame ∷ frames) = whole-append (packet_parts frame) (flat_map packet_parts frames) (packet_taken frame) (frames_taken frames)

-- frames of which the services take all parts carry a caption channel, and the other way round
pub taken-carry : (frames : List Frame) → AreAccepted services_say [] (flat_map packet_parts frames) → CarryChannel frames
taken-carry frames accepted =
    let heard = subst IsHeard (frames_whole frames) (accepted_heard (flat_map packet_parts frames) accepted) in
    let (packets, (blocks, channel)) = heard_channel (file_triplets frames) heard in
    record { packets = packets; blocks = blocks; channel = channel }

pub carry-taken : (frames : List Frame) → CarryChannel frames → AreAccepted services_say [] (flat_map packet_parts frames)
carry-taken frames is =
    let heard = (channel_heard is.packets is.blocks (file_triplets frames) is.channel).is in
    taken-accepted [] (flat_map packet_parts frames) (frames_taken frames [] (subst IsHeard (sym (frames_whole frames)) heard))
