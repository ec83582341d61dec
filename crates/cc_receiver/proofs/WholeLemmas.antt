-- A receiver after a whole packet of captions, where no packet was open.
use Rattle.std.proofs.Common.{arith, ◌≡◌, ℕ, ◌+◌, ◌-◌, ◌<◌, ◌≤◌, ◌++◌, List, [], ◌∷◌, length, map, reverse, take, drop, Some, None, ap, sym, subst, ◌∙◌, append_assoc, append-nil, length-append}
use Rattle.std.proofs.Math.Seq.{take-add}
use Rattle.std.proofs.lemmas.List.{length-take, map-append, reverse-append}
use Rattle.std.proofs.lemmas.List.Elements.{All-append, All-take}
use Rattle.std.specs.List.{All}
use Rattle.cc_base.specs.Syntax.{open_behind}
use Rattle.anc_words.specs.Packets.{AncillaryPacket, IsCaption, user_bytes}
use Rattle.anc_words.specs.Readers.{HasRead}
use Rattle.anc_words.specs.Reading.{anc_syntax, nothing_open}
use Rattle.anc_words.specs.WordsFiles.{IsPacketBytes, IsWordsFile}
use Rattle.anc_words.proofs.PacketLemmas.{IsPacketBytes-unique}
use Rattle.anc_words.proofs.WordsFileLemmas.{IsWordsFile-append, IsWordsFile-first, IsWordsFile-one}
use Rattle.cdp_packets.specs.PacketParts.{packet_parts}
use Rattle.cdp_packets.specs.Packets.{Frame, IsCdp}
use Rattle.services_files.specs.Catching.{Caught, caught_in, refusal_of}
use Rattle.services_files.specs.Offences.{IsFileUnder}
use Rattle.services_files.specs.CaptionChannel.{caption_channel}
use Rattle.services_files.specs.Services.{services_say}
use Rattle.services_files.specs.Frames.{IsFileOf, none, caption}
use Rattle.services_files.proofs.FrameLemmas.{joined}
use Rattle.service_blocks.specs.Channels.{IsHeard}
use Rattle.service_blocks.proofs.ChannelLemmas.{heard_channel}
use Rattle.services_files.specs.Services.{whole_triplets}
use Rattle.services_files.specs.CarriedChannel.{file_triplets}
use Rattle.services_files.proofs.WholeFileLemmas.{frames_whole}
use Rattle.services_files.proofs.ChannelFiles.{caught_channel, channel_caught}
use Rattle.cc_receiver.specs.Channels.{frames_parts}
use Rattle.cc_receiver.proofs.JudgingLemmas.{packets_parts}
use Rattle.services_files.proofs.FramesOfLemmas.{empty_file, file_front}
use Rattle.cc_receiver.specs.declared.receiver.Receiver.{Receiver}
use Rattle.cc_receiver.specs.declared.receiver.Ended.TheVariants as ended
use Rattle.cc_receiver.specs.Catchers.{Keeps, with_frame}
use Rattle.cc_receiver.specs.Receivers.{HasReceived, frame_count, receiver_refusal}
use Rattle.cc_receiver.specs.Receiving.{EndsBy}
use Rattle.cc_receiver.specs.Wholes.{ReadsWhole}
use Rattle.cc_receiver.specs.declared.captions.Captions.{Captions}
use Rattle.cc_receiver.proofs.ReceivedLemmas.{kept_is}
use Rattle.cc_receiver.proofs.TakenLemmas.{OneMore, same_count}

-- the bytes before, and a packet of captions with its frame
pub record IsWhole (before piece : List ℕ) (packet : AncillaryPacket) (frame : Frame) : Type 0 where
  pub bytes_are : All (λ b. b < 256) before
  pub unrefused : refusal_of services_say before ≡ None
  pub closed : open_behind anc_syntax before ≡ nothing_open
  pub is_caption : IsCaption packet
  pub is_packet : IsPacketBytes packet piece
  pub is_cdp : IsCdp frame (user_bytes packet)
  pub is_heard : IsHeard (whole_triplets (frames_parts (packet_parts frame ∷ (caught_in services_say before).frames)))

-- what is caught of them
pub record CatchesWhole (before piece : List ℕ) (packet : AncillaryPacket) (frame : Frame) : Type 0 where
  pub caught : caught_in services_say (before ++ piece) ≡ with_frame (packet_parts frame) (caught_in services_say before)
  pub unrefused : refusal_of services_say (before ++ piece) ≡ None
  pub earlier : List AncillaryPacket
  pub first : IsWordsFile earlier before
  pub are : IsWordsFile (earlier ++ packet ∷ []) (before ++ piece)

pub catches_whole : (before piece : List ℕ) (packet : AncillaryPacket) (frame : Frame) → IsWhole before piece packet frame → CatchesWhole before piece packet frame
catches_whole before piece packet frame is =
    let (frames, file) = caught_channel before is.bytes_are is.unrefused is.closed in
    let one : IsFileOf (frame ∷ []) piece =
    record { packets = packet ∷ []; file = IsWordsFile-one packet piece is.is_packet; carried = caption packet [] frame [] is.is_caption is.is_cdp none } in
    let was = (channel_caught frames before file).0 in
    let newest : reverse (map packet_parts (frames ++ frame ∷ [])) ≡ packet_parts frame ∷ reverse (map packet_parts frames) =
    ap reverse (map-append packet_parts frames (frame ∷ [])) ∙ reverse-append (map packet_parts frames) (packet_parts frame ∷ []) in
    let triplets : whole_triplets (frames_parts (packet_parts frame ∷ (caught_in services_say before).frames)) ≡ file_triplets (frames ++ frame ∷ []) =
    ap (λ (c : Caught). whole_triplets (frames_parts (packet_parts frame ∷ c.frames))) was
    ∙ ap (λ fs. whole_triplets (frames_parts fs)) (sym newest) ∙ ap whole_triplets (packets_parts (frames ++ frame ∷ [])) ∙ frames_whole (frames ++ frame ∷ []) in
    let (packets, (blocks, channel)) = heard_channel (file_triplets (frames ++ frame ∷ [])) (subst IsHeard triplets is.is_heard) in
    let whole : IsFileUnder caption_channel (frames ++ frame ∷ []) (before ++ piece) = record {
      file = joined frames (frame ∷ []) before piece file.file one;
      accepted = record { packets = packets; blocks = blocks; channel = channel };
    } in
    let (now, unrefused) = channel_caught (frames ++ frame ∷ []) (before ++ piece) whole in
    record {
      caught = now ∙ ap (λ fs. let c : Caught = record { open_caption = None; frames = fs; refused = None } in c) newest ∙ sym (ap (with_frame (packet_parts frame)) was);
      unrefused = unrefused;
      earlier = file.file.packets;
      first = file.file.file;
      are = IsWordsFile-append file.file.packets (packet ∷ []) before piece file.file.file (IsWordsFile-one packet piece is.is_packet);
    }

-- the receiver
pub whole_received : (before piece : List ℕ) (packet : AncillaryPacket) (frame : Frame) (old new : Receiver) → IsWhole before piece packet frame
    → frame_count old < 4294967295 → All (λ b. b < 256) piece → HasReceived before old → HasRead (before ++ piece) new.words
    → Keeps (with_frame (packet_parts frame) (caught_in services_say before)) new.captions → HasReceived (before ++ piece) new
whole_received before piece packet frame old new is few bytes had read keeps =
    let catches = catches_whole before piece packet frame is in
    let kept : Keeps (caught_in services_say (before ++ piece)) new.captions = subst (λ (c : Caught). Keeps c new.captions) (sym catches.caught) keeps in
    let frames = ap (λ (c : Caught). length c.frames) catches.caught in
    let counted = had.counted in
    let one : OneMore (frame_count old) (length (caught_in services_say (before ++ piece)).frames) =
    record { least = omega (arith, frames, counted); most = omega (arith, frames, counted) } in
    record {
      reached = record {
        took = kept;
        leads = λ none. read;
        kept = λ refused some. absurd (let clash : Some refused ≡ None = sym some ∙ catches.unrefused in cc);
      };
      bytes_are = All-append (λ b. b < 256) before piece had.bytes_are bytes;
      counted = same_count (frame_count old) (length (caught_in services_say (before ++ piece)).frames) (frame_count new) kept.count one few;
    }

-- it counts one frame more
pub whole_counts : (before piece : List ℕ) (packet : AncillaryPacket) (frame : Frame) (old new : Receiver) → IsWhole before piece packet frame
    → HasReceived before old → HasReceived (before ++ piece) new → frame_count new ≡ frame_count old + 1
whole_counts before piece packet frame old new is had has =
    let frames = ap (λ (c : Caught). length c.frames) (catches_whole before piece packet frame is).caught in
    let was = had.counted in
    let now = has.counted in
    omega (arith, frames, was, now)

-- the packet ends the bytes
pub whole_ends : (before piece : List ℕ) (packet : AncillaryPacket) (frame : Frame) → IsWhole before piece packet frame → EndsBy ended.Caption (before ++ piece)
whole_ends before piece packet frame is =
    let catches = catches_whole before piece packet frame is in
    (packet, record { earlier = catches.earlier; are = catches.are }, is.is_caption)

-- and none ends them sooner
front_of_packet : (packet : AncillaryPacket) (front more : List ℕ) (packets : List AncillaryPacket) → IsPacketBytes packet (front ++ more) → 0 < length front → 0 < length more
    → IsWordsFile packets front → ⊥
front_of_packet packet front more [] is some rest file = let none = ap length (empty_file front file) in absurd (omega (arith, none, some))
front_of_packet packet front more (p ∷ packets) is some rest file =
    let (own, behind, spelled, is_packet, others) = IsWordsFile-first p packets front file in
    let same : own ++ (behind ++ more) ≡ (front ++ more) ++ [] = sym (append_assoc own behind more) ∙ ap (λ bs. bs ++ more) (sym spelled) ∙ sym (append-nil (front ++ more)) in
    let (_, fronts, _) = IsPacketBytes-unique p packet own (front ++ more) (behind ++ more) [] is_packet is same in
    let e = ap length fronts in
    let f = ap length spelled in
    let long = length-append front more in
    let longer = length-append own behind in
    absurd (omega (arith, e, f, long, longer, rest))

pub whole_first : (before bytes : List ℕ) (size fewer : ℕ) (packet : AncillaryPacket) (frame : Frame) (packets : List AncillaryPacket)
    → IsWhole before (take size bytes) packet frame → size ≤ length bytes → 0 < fewer → fewer < size → IsWordsFile packets (before ++ take fewer bytes) → ⊥
whole_first before bytes size fewer packet frame packets is within some less file =
    let catches = catches_whole before (take size bytes) packet frame is in
    let behind = file_front catches.earlier packets before (take fewer bytes) catches.first file in
    let parts : take size bytes ≡ take fewer bytes ++ take (size - fewer) (drop fewer bytes) =
    (let e : fewer + (size - fewer) ≡ size = omega (arith, less) in ap (λ n. take n bytes) (sym e) ∙ take-add fewer (size - fewer) bytes) in
    let first = length-take fewer bytes in
    let whole = length-take size bytes in
    let e = ap length parts in
    let long = length-append (take fewer bytes) (take (size - fewer) (drop fewer bytes)) in
    front_of_packet packet (take fewer bytes) (take (size - fewer) (drop fewer bytes)) behind.rest (subst (IsPacketBytes packet) parts is.is_packet)
    (omega (arith, first, some, less, within)) (omega (arith, first, whole, e, long, less, within)) behind.file

-- captions took the bytes that a packet of captions carries
pub record TakesFrame (bytes : List ℕ) (caught : Caught) (captions : Captions) : Type 0 where
  pub frame : Frame
  pub is_cdp : IsCdp frame bytes
  pub keeps : Keeps (with_frame (packet_parts frame) caught) captions

pub reads_whole : (before bytes : List ℕ) (size : ℕ) (packet : AncillaryPacket) (old new : Receiver) → frame_count old < 4294967295 → All (λ b. b < 256) bytes
    → HasReceived before old → receiver_refusal old ≡ None → (HasRead before old.words → open_behind anc_syntax before ≡ nothing_open)
    → IsCaption packet → size ≤ length bytes → IsPacketBytes packet (take size bytes)
    → ((caught : Caught) → Keeps caught old.captions → TakesFrame (user_bytes packet) caught new.captions)
    → (HasRead before old.words → open_behind anc_syntax before ≡ nothing_open → HasRead (before ++ take size bytes) new.words) → ReadsWhole before bytes size old new
reads_whole before bytes size packet old new few all had kept closes is_caption within is_packet takes passes =
    let unrefused : refusal_of services_say before ≡ None = sym (kept_is before old had) ∙ kept in
    let read = had.reached.leads unrefused in
    let closed = closes read in
    let took = takes (caught_in services_say before) had.reached.took in
    let whole : IsWhole before (take size bytes) packet took.frame = record {
      bytes_are = had.bytes_are;
      unrefused = unrefused;
      closed = closed;
      is_caption = is_caption;
      is_packet = is_packet;
      is_cdp = took.is_cdp;
      is_heard = took.keeps.channel.blocks_read.all;
    } in
    let received = whole_received before (take size bytes) packet took.frame old new whole few (All-take (λ b. b < 256) size bytes all) had (passes read closed) took.keeps in
    record {
      received = received;
      unrefused = (catches_whole before (take size bytes) packet took.frame whole).unrefused;
      ends = whole_ends before (take size bytes) packet took.frame whole;
      first = λ packets fewer. whole_first before bytes size fewer packet took.frame packets whole within;
      counts = whole_counts before (take size bytes) packet took.frame old new whole had received;
    }
