-- The words of an import are a words file over all layers: frames that are put carry nothing of the caption channel, and packets whose
-- counters are raised carry what they carried.
use Rattle.std.proofs.Common.{◌≡◌, ℕ, ◌||◌, All, List, [], ◌∷◌, ◌++◌, append_assoc, append-nil, map, refl, ap, sym, ◌∙◌, subst}
use Rattle.std.specs.List.{flat_map}
use Rattle.std.proofs.lemmas.List.Elements.{All-head, All-tail, filter-append}
use Rattle.anc_words.proofs.PacketLemmas.{user_bytes-packet_of}
use Rattle.anc_words.proofs.WordsFileLemmas.{IsWordsFile-append, IsWordsFile-nil, IsWordsFile-one, IsWordsFile-unique}
use Rattle.anc_words.specs.Packets.{AncillaryPacket}
use Rattle.anc_words.specs.WordsFiles.{IsWordsFile}
use Rattle.anc_words.specs.Writing.{packet_of}
use Rattle.cc_data.specs.declared.triplet.Triplet.{Triplet}
use Rattle.cdp_packets.proofs.PacketLemmas.{packet_once}
use Rattle.cdp_packets.specs.PacketTriplets.{packet_triplets}
use Rattle.cdp_packets.specs.Packets.{Frame, IsCdp}
use Rattle.channel_packets.specs.ChannelPackets.{channel_triplets, continues_packet, starts}
use Rattle.mcc_files.specs.MccFiles.{TimedPackets}
use Rattle.mcc_files.proofs.WordLemmas.{payload_is_packet, user_of_bytes}
use Rattle.mcc_files.specs.Payloads.{Payload}
use Rattle.mcc_files.specs.PayloadWords.{payload_words}
use Rattle.mcc_words.specs.Close.{words_as_they_came}
use Rattle.mcc_words.proofs.CaptionTests.{captions_false, captions_true}
use Rattle.mcc_words.proofs.FileLemmas.{GoForward, file_forward}
use Rattle.mcc_words.proofs.PartLemmas.{other_first, own_first, packets_stand_apart, words_have_frames}
use Rattle.mcc_words.proofs.PlaceLemmas.{packets_stand_at_their_frames}
use Rattle.mcc_words.proofs.WithoutLemmas.{without_channel}
use Rattle.mcc_words.specs.Standing.{CaptionPart, IsPart, IsWithoutCaptions, caption_packets, part_frames, placed_packet}
use Rattle.services_files.specs.CarriedChannel.{CarryChannel, file_triplets}
use Rattle.words_files.specs.Frames.{CarryFrames}
use Rattle.words_files.specs.Frames.CarryFrames.{caption, foreign, none}
use Rattle.mcc_commands.specs.Standing.{ImportsAreWordsFiles, ImportsStandApart, ImportsStandAtTheirFrames}

-- the triplets of channel packets in frames
abbrev heard : List Frame → List Triplet
heard frames = channel_triplets (file_triplets frames)

channel_append : (xs ys : List Triplet) → channel_triplets (xs ++ ys) ≡ channel_triplets xs ++ channel_triplets ys
channel_append xs ys = filter-append (λ (triplet : Triplet). starts triplet || continues_packet triplet) xs ys

heard_first : (frame : Frame) (frames : List Frame) → heard (frame ∷ frames) ≡ channel_triplets (packet_triplets frame) ++ heard frames
heard_first frame frames = channel_append (packet_triplets frame) (file_triplets frames)

heard_both : (frames more : List Frame) → heard (frames ++ more) ≡ heard frames ++ heard more
heard_both [] more = refl
heard_both (frame ∷ frames) more =
    heard_first frame (frames ++ more)
    ∙ (ap (λ (t : List Triplet). channel_triplets (packet_triplets frame) ++ t) (heard_both frames more)
    ∙ (sym (append_assoc (channel_triplets (packet_triplets frame)) (heard frames) (heard more)) ∙ ap (λ (t : List Triplet). t ++ heard more) (sym (heard_first frame frames))))

-- frames without captions have none
nothing_heard : (frames : List Frame) → All IsWithoutCaptions frames → heard frames ≡ []
nothing_heard [] are = refl
nothing_heard (frame ∷ frames) are =
    heard_first frame frames
    ∙ (ap (λ (t : List Triplet). t ++ heard frames) (without_channel frame (All-head IsWithoutCaptions frame frames are))
    ∙ nothing_heard frames (All-tail IsWithoutCaptions frame frames are))

-- frames that carry the same of the caption channel carry a channel
channel_by : (frames more : List Frame) → heard frames ≡ heard more → CarryChannel frames → CarryChannel more
channel_by frames more same is =
    let are = is.channel.packets_are in
    record {
      packets = is.packets;
      blocks = is.blocks;
      channel = record {
        packets_are = record {
          strays = are.strays;
          stretches = are.stretches;
          spelled = sym same ∙ are.spelled;
          strays_are = are.strays_are;
          stretches_are = are.stretches_are;
          packets_are = are.packets_are;
        };
        blocks_are = is.channel.blocks_are;
      };
    }

-- the packets of a file's words as they came
abbrev pub packets_of : TimedPackets → List AncillaryPacket
packets_of [] = []
packets_of (placed ∷ more) = packet_of placed.1.did placed.1.sdid placed.1.user ∷ packets_of more

pub came_file : (last : ℕ) (placed : TimedPackets) → GoForward last placed → IsWordsFile (packets_of placed) (words_as_they_came placed)
came_file last [] forward = IsWordsFile-nil
came_file last (placed ∷ more) forward =
    let packet = packet_of placed.1.did placed.1.sdid placed.1.user in
    IsWordsFile-append (packet ∷ []) (packets_of more) (payload_words placed.1) (words_as_they_came more)
    (IsWordsFile-one packet (payload_words placed.1) (payload_is_packet placed.1 forward.1)) (came_file placed.0 more forward.2)

-- their frames carry what the frames of the packets' parts carry
part_heard : (part : CaptionPart) (more : List Frame) (frame : Frame) → IsPart part → IsCdp frame part.payload.user
    → heard (part_frames part ++ more) ≡ channel_triplets (packet_triplets frame) ++ heard more
part_heard part more frame is carries =
    let own = is.own in
    let same : own.packet ≡ frame = (packet_once own.packet frame part.payload.user part.payload.user [] [] own.carries carries refl).packet in
    let said : packet_triplets part.own ≡ packet_triplets frame = ap packet_triplets own.is ∙ ap packet_triplets same in
    heard_both (part_frames part) more
    ∙ ap (λ (t : List Triplet). t ++ heard more)
    (heard_both part.missing (part.own ∷ [])
    ∙ (ap (λ (t : List Triplet). t ++ heard (part.own ∷ [])) (nothing_heard part.missing is.without)
    ∙ (heard_first part.own [] ∙ (append-nil (channel_triplets (packet_triplets part.own)) ∙ ap channel_triplets said))))

parts_heard : (last : ℕ) (placed : TimedPackets) (parts : List CaptionPart) (frames : List Frame) → GoForward last placed → CarryFrames (packets_of placed) frames
    → All IsPart parts → map placed_packet parts ≡ caption_packets placed → heard frames ≡ heard (flat_map part_frames parts)
parts_heard last [] [] _ forward none are same = refl
parts_heard last [] (part ∷ parts) _ forward none are same = absurd (cc)
parts_heard last (placed ∷ more) [] _ forward (caption _ _ frame frames is carries carried) are same =
    let own = own_first placed more (captions_true placed.1 is) in
    absurd (let clash : placed ∷ caption_packets more ≡ [] = sym own ∙ sym same in cc)
parts_heard last (placed ∷ more) (part ∷ parts) _ forward (caption _ _ frame frames is carries carried) are same =
    let all : placed_packet part ∷ map placed_packet parts ≡ placed ∷ caption_packets more = same ∙ own_first placed more (captions_true placed.1 is) in
    let first : placed_packet part ≡ placed = cc in
    let rest : map placed_packet parts ≡ caption_packets more = cc in
    let payload : part.payload ≡ placed.1 = ap (λ (p : ℕ × Payload). p.1) first in
    let user = user_bytes-packet_of placed.1.did placed.1.sdid placed.1.user (user_of_bytes placed.1 forward.1) in
    let own : IsCdp frame part.payload.user = subst (λ (p : Payload). IsCdp frame p.user) (sym payload) (subst (λ (u : List ℕ). IsCdp frame u) user carries) in
    let here = part_heard part (flat_map part_frames parts) frame (All-head IsPart part parts are) own in
    let next = parts_heard placed.0 more parts frames forward.2 carried (All-tail IsPart part parts are) rest in
    heard_first frame frames ∙ (ap (λ (t : List Triplet). channel_triplets (packet_triplets frame) ++ t) next ∙ sym here)
parts_heard last (placed ∷ more) parts _ forward (foreign _ _ frames isnt carried) are same =
    parts_heard placed.0 more parts frames forward.2 carried are (same ∙ other_first placed more (captions_false placed.1 isnt))

-- so the words of an import are a words file
pub imports_are_files : ImportsAreWordsFiles
imports_are_files bytes words is =
    let forward = file_forward is.placed bytes is.file in
    let (frames, file) = words_have_frames is.placed bytes words is.file is.within.are in
    let stands = packets_stand_apart is.placed bytes words frames is.file is.within.are file in
    let came = is.words in
    let packets : came.file.packets ≡ packets_of is.placed =
    IsWordsFile-unique came.file.packets (packets_of is.placed) (words_as_they_came is.placed) came.file.file (came_file 0 is.placed forward) in
    let carried = subst (λ (ps : List AncillaryPacket). CarryFrames ps is.frames) packets came.file.carried in
    let same = parts_heard 0 is.placed stands.parts is.frames forward carried stands.are stands.packets in
    (frames, record { file = file; accepted = channel_by is.frames frames (same ∙ ap heard (sym stands.frames_are)) came.accepted })

pub imports_stand_apart : ImportsStandApart
imports_stand_apart bytes words is frames under = packets_stand_apart is.placed bytes words frames is.file is.within.are under.file

pub imports_at_frames : ImportsStandAtTheirFrames
imports_at_frames bytes words is frames first last under own ends =
    packets_stand_at_their_frames is.placed bytes words frames first last is.file is.within.are under.file own ends
