-- The lines of packets of extended data, pair by pair and frame by frame.
use Rattle.std.proofs.Common.{◌≡◌, ◌∙◌, ◌++◌, ◌∷◌, [], ap, append_assoc, append-nil, length, map, refl, subst, sym, ℕ, List, Option, Some}
use Rattle.std.specs.Prelude.{codes, decimal}
use Rattle.std.specs.List.{flat_map}
use Rattle.std.proofs.lemmas.Grind.{flat_map-append}
use Rattle.std.proofs.lemmas.List.{map-append}
use Rattle.cc_base.specs.declared.streams.Put.{Put}
use Rattle.words_reading.specs.Receivers.{HasReceived}
use Rattle.cdp_packets.specs.PacketTriplets.{packet_triplets}
use Rattle.cdp_packets.specs.Packets.{Frame}
use Rattle.line21_codes.specs.Reading.{code_of}
use Rattle.line21_codes.specs.declared.channels.FieldNumber.TheVariants.{Two}
use Rattle.line21_codes.specs.declared.codes.Code.{Code}
use Rattle.line21_codes.specs.declared.pairs.Pair.{Pair}
use Rattle.text_output.proofs.PageLemmas.{begun_written, writes_same, writes_then}
use Rattle.text_output.specs.Gathered.{GathersText, IsGathered, answer_of, held_of}
use Rattle.text_output.specs.Pages.{Page, Writes}
use Rattle.cc_base.specs.declared.streams.Put.TheVariants as put
use Rattle.words_files.specs.Received.{field_pairs, received_pairs}
use Rattle.words_reading.proofs.FrameLemmas.{nothing_judged}
use Rattle.words_reading.specs.FramesRead.{HasJudgedFrames, receiver_of}
use Rattle.words_reading.specs.declared.frames.Frames.{Frames}
use Rattle.xds_packets.specs.Reader.{HasRead}
use Rattle.xds_packets.specs.Reading.{ends_at, listed, packets_behind}
use Rattle.xds_packets.specs.declared.packets.XdsPacket.{XdsPacket}
use Rattle.xds_packets.specs.declared.reader.XdsReader.{XdsReader}
use Rattle.words_commands.proofs.PrintingLemmas.{texts_more}
use Rattle.words_commands.specs.Screens.{texts_behind}
use Rattle.words_commands.specs.PacketLines.{AllPacketsAreShown, frame_packets, next_packets, packet_line, packets_in}
use Rattle.words_commands.specs.declared.packet_lines.PacketLines.{PacketLines}

-- the packets that end in pairs of field 2, after those before
abbrev pub ended_in : List Pair → List Pair → List XdsPacket
ended_in before pairs = packets_behind (map code_of before) (map code_of pairs)

-- the line of a packet, piece by piece
pub line_written : (before shown : List ℕ) (frame class kind : ℕ) (packet : XdsPacket) → class ≡ packet.class → kind ≡ packet.kind → shown ≡ packet.text
    → ((((((((before ++ codes "frame ") ++ decimal frame) ++ codes " class ") ++ decimal class) ++ codes " type ") ++ decimal kind) ++ codes " ") ++ shown) ++ codes "\n"
    ≡ before ++ packet_line frame packet
line_written before shown frame class kind packet of_class of_kind is = rw (of_class, of_kind, is) (simp (append_assoc, append-nil))

-- the line of the one packet that ended
pub ended_written : (old new : Page) (ended : Option XdsPacket) (packet : XdsPacket) (frame : ℕ) → ended ≡ Some packet → Writes old new (packet_line frame packet)
    → Writes old new (flat_map (packet_line frame) (listed ended))
ended_written old new ended packet frame is writes =
    subst (λ e. Writes old new (flat_map (packet_line frame) (listed e))) (sym is)
    (writes_same old new (packet_line frame packet) (packet_line frame packet ++ []) (sym (append-nil (packet_line frame packet))) writes)

-- the packets of codes after others, in two parts
behind_append : (before codes others : List Code) → packets_behind before (codes ++ others) ≡ packets_behind before codes ++ packets_behind (before ++ codes) others
behind_append before [] others = ap (λ b. packets_behind b others) (sym (append-nil before))
behind_append before (code ∷ codes) others =
    ap (λ r. listed (ends_at before code) ++ r) (behind_append (before ++ code ∷ []) codes others
    ∙ ap (λ b. packets_behind (before ++ code ∷ []) codes ++ packets_behind b others) (append_assoc before (code ∷ []) codes))
    ∙ sym (append_assoc (listed (ends_at before code)) (packets_behind (before ++ code ∷ []) codes) (packets_behind (before ++ code ∷ codes) others))

ended_append : (before pairs others : List Pair) → ended_in before (pairs ++ others) ≡ ended_in before pairs ++ ended_in (before ++ pairs) others
ended_append before pairs others =
    ap (packets_behind (map code_of before)) (map-append code_of pairs others)
    ∙ behind_append (map code_of before) (map code_of pairs) (map code_of others)
    ∙ ap (λ b. ended_in before pairs ++ packets_behind b (map code_of others)) (sym (map-append code_of before pairs))

-- one pair more
ended_more : (before pairs : List Pair) (pair : Pair) → ended_in before (pairs ++ pair ∷ []) ≡ ended_in before pairs ++ listed (ends_at (map code_of (before ++ pairs)) (code_of pair))
ended_more before pairs pair =
    ended_append before pairs (pair ∷ []) ∙ ap (λ r. ended_in before pairs ++ r) (append-nil (listed (ends_at (map code_of (before ++ pairs)) (code_of pair))))

-- the line of a packet that ended at one pair more was written
pub packet_written : (start now then : Page) (before pairs more : List Pair) (pair : Pair) (ended : Option XdsPacket) (frame : ℕ) → more ≡ pairs ++ pair ∷ []
    → ended ≡ ends_at (map code_of (before ++ pairs)) (code_of pair) → Writes start now (flat_map (packet_line frame) (ended_in before pairs))
    → Writes now then (flat_map (packet_line frame) (listed ended)) → Writes start then (flat_map (packet_line frame) (ended_in before more))
packet_written start now then before pairs more pair ended frame is at first next =
    writes_same start then _ _
    (ap (λ e. flat_map (packet_line frame) (ended_in before pairs) ++ flat_map (packet_line frame) (listed e)) at
    ∙ sym (flat_map-append (packet_line frame) (ended_in before pairs) (listed (ends_at (map code_of (before ++ pairs)) (code_of pair))))
    ∙ ap (flat_map (packet_line frame)) (sym (ended_more before pairs pair) ∙ ap (ended_in before) (sym is)))
    (writes_then start now then _ _ first next)

-- a reader that read one pair more
pub read_more : (before pairs more : List Pair) (pair : Pair) (reader : XdsReader) → more ≡ pairs ++ pair ∷ [] → HasRead ((before ++ pairs) ++ pair ∷ []) reader → HasRead (before ++ more) reader
read_more before pairs more pair reader is read =
    subst (λ ps. HasRead ps reader) (append_assoc before pairs (pair ∷ []) ∙ ap (λ ps. before ++ ps) (sym is)) read

-- the pairs of frames, with a frame more
pairs_more : (frames : List Frame) (last : Frame) → received_pairs Two (frames ++ last ∷ []) ≡ received_pairs Two frames ++ field_pairs Two (packet_triplets last)
pairs_more frames last =
    flat_map-append (λ (frame : Frame). field_pairs Two (packet_triplets frame)) frames (last ∷ [])
    ∙ ap (λ ps. received_pairs Two frames ++ ps) (append-nil (field_pairs Two (packet_triplets last)))

-- a reader that read the pairs of a frame more
pub pairs_read : (frames : List Frame) (last : Frame) (pairs : List Pair) (reader : XdsReader) → pairs ≡ field_pairs Two (packet_triplets last)
    → HasRead (received_pairs Two frames ++ pairs) reader → HasRead (received_pairs Two (frames ++ last ∷ [])) reader
pairs_read frames last pairs reader are read =
    subst (λ ps. HasRead ps reader) (ap (λ ps. received_pairs Two frames ++ ps) are ∙ sym (pairs_more frames last)) read

-- the lines of a frame more were written
pub lines_gathered : (start : Option (List ℕ)) (old new : Page) (r : Put) (frames : List Frame) (last : Frame) (frame : ℕ) (pairs : List Pair)
    → IsGathered start old.written (held_of old.text) (texts_behind next_packets [] frames) → answer_of old.text ≡ put.Done
    → Writes old new (flat_map (packet_line frame) (ended_in (received_pairs Two frames) pairs)) → r ≡ answer_of new.text
    → pairs ≡ field_pairs Two (packet_triplets last) → frame ≡ length frames
    → GathersText start new.written (held_of new.text) (texts_behind next_packets [] (frames ++ last ∷ [])) r
lines_gathered start old new r frames last frame pairs way done writes answered are number =
    let more : texts_behind next_packets [] frames ++ flat_map (packet_line frame) (ended_in (received_pairs Two frames) pairs) ≡ texts_behind next_packets [] (frames ++ last ∷ []) =
    ap (λ ps. texts_behind next_packets [] frames ++ flat_map (packet_line frame) (ended_in (received_pairs Two frames) ps)) are
    ∙ ap (λ n. texts_behind next_packets [] frames ++ flat_map (packet_line n) (frame_packets frames last)) number
    ∙ sym (texts_more next_packets frames last) in
    subst (λ a. GathersText start new.written (held_of new.text) (texts_behind next_packets [] (frames ++ last ∷ [])) a) (sym answered)
    (subst (λ l. GathersText start new.written (held_of new.text) l (answer_of new.text)) more
    (writes start old.faults (texts_behind next_packets [] frames) (begun_written start (texts_behind next_packets [] frames) old done way)).bytes)

-- a reading that judged nothing
pub nothing_ended : (reading : Frames PacketLines) (reader : XdsReader) → HasReceived [] (receiver_of reading) → reading.maker ≡ record { reader = reader } → HasRead [] reader
    → HasJudgedFrames (texts_behind next_packets []) (λ frames (lines : PacketLines). HasRead (received_pairs Two frames) lines.reader) [] [] reading
nothing_ended reading reader received is read =
    nothing_judged (texts_behind next_packets []) _ [] reading received (subst (λ (m : PacketLines). HasRead [] m.reader) (sym is) read) refl

-- all packets are the frames' packets
packets_are : (before frames : List Frame) → packets_in before frames ≡ ended_in (received_pairs Two before) (received_pairs Two frames)
packets_are before [] = refl
packets_are before (frame ∷ frames) =
    ap (λ r. frame_packets before frame ++ r)
    (packets_are (before ++ frame ∷ []) frames ∙ ap (λ ps. ended_in ps (received_pairs Two frames)) (pairs_more before frame))
    ∙ sym (ended_append (received_pairs Two before) (field_pairs Two (packet_triplets frame)) (received_pairs Two frames))

pub all_packets_are_shown : AllPacketsAreShown
all_packets_are_shown frames = packets_are [] frames
