-- What is caught of bytes says what their frames say.
use Rattle.std.proofs.Common.{arith, ◌≡◌, ℕ, ◌%◌, ◌<◌, ◌≤◌, ◌++◌, List, [], ◌∷◌, length, map, reverse, refl, ap, sym, ◌∙◌, append_assoc, append-nil, length-append}
use Rattle.std.proofs.lemmas.List.{length-map, reverse-append}
use Rattle.std.specs.List.{concat}
use Rattle.line21_codes.specs.declared.channels.FieldNumber.{FieldNumber}
use Rattle.line21_codes.specs.declared.channels.FieldNumber.TheVariants.{One, Two}
use Rattle.anc_words.specs.Packets.{AncillaryPacket, IsPacket, user_bytes}
use Rattle.anc_words.specs.WordsFiles.{ArePackets}
use Rattle.cdp_packets.specs.declared.parts.CdpPart.{CdpPart}
use Rattle.cdp_packets.specs.PacketParts.{packet_parts}
use Rattle.cdp_packets.specs.PacketTriplets.{packet_triplets}
use Rattle.cdp_packets.specs.Packets.{Frame, IsCdp}
use Rattle.cdp_packets.specs.Sections.{AreSections}
use Rattle.services_files.specs.Frames.{CarryFrames, none, caption, foreign}
use Rattle.services_files.specs.FramesOf.{AreFramesOf}
use Rattle.services_files.specs.Layers.{Layers}
use Rattle.services_files.specs.Received.{field_pairs, received_pairs}
use Rattle.cc_receiver.specs.Gathering.{Gathered}
use Rattle.cc_receiver.specs.Hearing.{heard, parts_pairs}
use Rattle.cc_receiver.proofs.GatheredLemmas.{packet_gathered}

-- the frame's sections have room in a distribution packet
pub record Fits (frame : Frame) : Type 0 where
  pub are : AreSections frame.sections
  pub few : length (concat frame.sections) ≤ 244

-- so do the sections of all frames
abbrev pub AllFit : List Frame → Type 0
AllFit [] = Unit {0}
AllFit (frame ∷ frames) = Fits frame × AllFit frames

-- a packet of at most 255 bytes
cdp_fits : (frame : Frame) (bytes : List ℕ) → IsCdp frame bytes → length bytes < 256 → Fits frame
cdp_fits frame bytes is few =
    let e = ap length is.spelled in
    let long = length-append (concat frame.sections) (0x74 ∷ is.high ∷ is.low ∷ is.last ∷ []) in
    record { are = is.sections; few = omega (arith, e, long, few) }

-- an ancillary packet has at most 255 user words
users_few : (p : AncillaryPacket) (words : List ℕ) → IsPacket p words → length (user_bytes p) < 256
users_few p words is =
    let count : is.count % 256 ≡ length p.user = is.has_count.low_bits in
    let same = length-map p.user (λ word. word % 256) in
    omega (arith, count, same)

-- the frames of packets
frames_fit : (packets : List AncillaryPacket) (frames : List Frame) → CarryFrames packets frames → (words : List ℕ) → ArePackets packets words → AllFit frames
frames_fit _ _ none words are = tt
frames_fit _ _ (caption packet packets frame frames is_caption carries carried) words are =
    (cdp_fits frame (user_bytes packet) carries (users_few packet are.0 are.3), frames_fit packets frames carried are.1 are.4)
frames_fit _ _ (foreign packet packets frames isnt carried) words are = frames_fit packets frames carried are.1 are.4

-- the frames of bytes
pub frames_of_fit : (layers : Layers) (frames : List Frame) (bytes : List ℕ) → AreFramesOf layers frames bytes → AllFit frames
frames_of_fit layers frames bytes are =
    let file = are.is_file.file in
    frames_fit file.packets frames file.carried file.file.words file.file.are_packets

-- the pairs of a frame
pairs_of_frame : (in_field : FieldNumber) (frame : Frame) → Fits frame → parts_pairs in_field (packet_parts frame) ≡ field_pairs in_field (packet_triplets frame)
pairs_of_frame One frame fits = ap (λ (g : Gathered). g.pairs_one) (packet_gathered frame fits.are fits.few)
pairs_of_frame Two frame fits = ap (λ (g : Gathered). g.pairs_two) (packet_gathered frame fits.are fits.few)

-- what is heard of frames and earlier ones
heard-append : (in_field : FieldNumber) (frames earlier : List (List CdpPart)) → heard in_field (frames ++ earlier) ≡ heard in_field frames ++ heard in_field earlier
heard-append in_field [] earlier = refl
heard-append in_field (parts ∷ frames) earlier =
    ap (λ ps. reverse (parts_pairs in_field parts) ++ ps) (heard-append in_field frames earlier)
    ∙ sym (append_assoc (reverse (parts_pairs in_field parts)) (heard in_field frames) (heard in_field earlier))

-- what is heard of the frames are their pairs
pub heard_frames : (in_field : FieldNumber) (frames : List Frame) → AllFit frames
    → heard in_field (reverse (map packet_parts frames)) ≡ reverse (received_pairs in_field frames)
heard_frames in_field [] fit = refl
heard_frames in_field (frame ∷ frames) (fits, fit) =
    let own = field_pairs in_field (packet_triplets frame) in
    ap (heard in_field) (reverse-append (packet_parts frame ∷ []) (map packet_parts frames))
    ∙ heard-append in_field (reverse (map packet_parts frames)) (packet_parts frame ∷ [])
    ∙ ap (λ ps. ps ++ (reverse (parts_pairs in_field (packet_parts frame)) ++ [])) (heard_frames in_field frames fit)
    ∙ ap (λ ps. reverse (received_pairs in_field frames) ++ ps) (append-nil (reverse (parts_pairs in_field (packet_parts frame)))
    ∙ ap reverse (pairs_of_frame in_field frame fits))
    ∙ sym (reverse-append own (received_pairs in_field frames))
