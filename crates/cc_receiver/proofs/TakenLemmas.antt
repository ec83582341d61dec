-- What a receiver is after more bytes.
use Rattle.std.proofs.Common.{Some, arith, ◌≡◌, ◌≢◌, ℕ, ◌+◌, ◌%◌, ◌^◌, ◌<◌, ◌≤◌, ◌⊎◌, inl, inr, ◌++◌, List, [], ◌∷◌, length, map, Option, None, ap, sym, subst, ◌∙◌, length-append}
use Rattle.std.proofs.lemmas.List.{length-map, length-reverse}
use Rattle.std.proofs.lemmas.List.Elements.{All-append}
use Rattle.std.specs.List.{All}
use Rattle.cc_base.specs.declared.refusal.Refusal.{Refusal}
use Rattle.cc_base.specs.Feeding.{place_by}
use Rattle.cc_base.specs.Syntax.{judge_by, open_behind}
use Rattle.cc_base.proofs.ReachedLemmas.{Feeds, Reached-more}
use Rattle.anc_words.specs.Ending.{bytes_to_end}
use Rattle.anc_words.specs.Packets.{AncillaryPacket, IsCaption}
use Rattle.anc_words.specs.WordsFiles.{IsWordsFile}
use Rattle.anc_words.specs.Readers.{HasRead, kept_refusal}
use Rattle.anc_words.specs.Reading.{anc_syntax}
use Rattle.cdp_packets.specs.PacketParts.{packet_parts}
use Rattle.cdp_packets.specs.Packets.{Frame}
use Rattle.services_files.specs.Catching.{caption_verdict, caught_in, refusal_of}
use Rattle.services_files.specs.Services.{services_say}
use Rattle.services_files.specs.CaptionChannel.{caption_channel}
use Rattle.services_files.proofs.ChannelFiles.{bring_at_most_one, caught_channel, channel_caught, channel_or_none, ends_channel_bringing, frames_caught, got_frames, no_channel_end}
use Rattle.services_files.specs.FramesOf.{AreFramesOf}
use Rattle.services_files.specs.Offences.{IsFileUnder}
use Rattle.anc_words.proofs.ByteLemmas.{file_is_read}
use Rattle.services_files.proofs.FramesOfLemmas.{file_frames}
use Rattle.services_files.proofs.OffenceLemmas.{some_or_none}
use Rattle.cc_receiver.specs.declared.receiver.Receiver.{Receiver}
use Rattle.cc_receiver.specs.declared.receiver.Ended.TheVariants as ended
use Rattle.cc_receiver.specs.Catchers.{HasCaught}
use Rattle.cc_receiver.specs.Receivers.{HasReceived, frame_count}
use Rattle.cc_receiver.specs.Receiving.{EndsBy}

-- at most one more
pub record OneMore (old new : ℕ) : Type 0 where
  pub least : old ≤ new
  pub most : new ≤ old + 1

-- a number below 2^32 that is another one modulo 2^32, which is one of two neighbours
pub same_count : (old new modulo : ℕ) → modulo ≡ new % 2 ^ 32 → OneMore old new → old < 4294967295 → modulo ≡ new
same_count old new modulo is one few =
    let least = one.least in
    let most = one.most in
    omega (arith, is, least, most, few)

-- as many frames are caught as there are
pub caught_count : (frames : List Frame) (bytes : List ℕ) → All (λ b. b < 256) bytes → AreFramesOf caption_channel frames bytes
    → length (caught_in services_say bytes).frames ≡ length frames
caught_count frames bytes all are =
    ap length (frames_caught frames bytes all are) ∙ length-reverse (map packet_parts frames) ∙ length-map frames packet_parts

one_more : (frames more : List Frame) → (more ≡ frames) ⊎ ((frame : Frame) × (more ≡ frames ++ frame ∷ [])) → OneMore (length frames) (length more)
one_more frames more (inl same) = let e = ap length same in record { least = omega (arith, e); most = omega (arith, e) }
one_more frames more (inr (frame, spelled)) =
    let e = ap length spelled in
    let long = length-append frames (frame ∷ []) in
    record { least = omega (arith, e, long); most = omega (arith, e, long) }

-- at most one frame more is caught of a piece
caught_more : (before piece : List ℕ) → 0 < length piece → length piece ≤ bytes_to_end (open_behind anc_syntax before) → All (λ b. b < 256) before
    → All (λ b. b < 256) (before ++ piece) → OneMore (length (caught_in services_say before).frames) (length (caught_in services_say (before ++ piece)).frames)
caught_more before piece some few all whole =
    let first = got_frames before all in
    let one = bring_at_most_one first.frames before piece some few whole first.are in
    let was = caught_count first.frames before all first.are in
    let is = caught_count one.more (before ++ piece) whole one.are in
    subst (λ n. OneMore n (length (caught_in services_say (before ++ piece)).frames)) (sym was)
    (subst (λ n. OneMore (length first.frames) n) (sym is) (one_more first.frames one.more one.brings))

-- a receiver after a piece, and its answer
pub record Takes (bytes : List ℕ) (answer : Option Refusal) (new : Receiver) : Type 0 where
  pub received : HasReceived bytes new
  pub refusal : answer ≡ refusal_of services_say bytes

pub takes : (before piece : List ℕ) (answer : Option Refusal) (old new : Receiver) → frame_count old < 4294967295 → 0 < length piece
    → length piece ≤ bytes_to_end (open_behind anc_syntax before) → All (λ b. b < 256) piece → HasReceived before old
    → Feeds (judge_by anc_syntax) (caption_verdict services_say) (place_by 2) HasRead kept_refusal HasCaught piece answer
    old.words new.words old.captions new.captions → Takes (before ++ piece) answer new
takes before piece answer old new few some most bytes had fed =
    let more = Reached-more (judge_by anc_syntax) (caption_verdict services_say) (place_by 2) HasRead kept_refusal HasCaught [] [] before piece
    answer old.words new.words old.captions new.captions had.reached fed in
    let whole = All-append (λ b. b < 256) before piece had.bytes_are bytes in
    let one : OneMore (frame_count old) (length (caught_in services_say (before ++ piece)).frames) =
    subst (λ n. OneMore n (length (caught_in services_say (before ++ piece)).frames)) (sym had.counted) (caught_more before piece some most had.bytes_are whole) in
    let counted = same_count (frame_count old) (length (caught_in services_say (before ++ piece)).frames) (frame_count new) more.reached.took.count one few in
    record {
      received = record { reached = more.reached; bytes_are = whole; counted = counted };
      refusal = more.answer_is;
    }

-- how a piece ended, by the counts of frames
pub record PieceEnds (bytes : List ℕ) (old new : ℕ) : Type 0 where
  pub caption : new ≢ old → EndsBy ended.Caption bytes
  pub foreign : new ≡ old → (packets : List AncillaryPacket) → IsWordsFile packets bytes → refusal_of services_say bytes ≡ None → EndsBy ended.Foreign bytes
  pub one : new ≢ old → new ≡ old + 1

-- the count of frames
pub frames_count : (frames : List Frame) (bytes : List ℕ) (receiver : Receiver) → HasReceived bytes receiver → AreFramesOf caption_channel frames bytes
    → frame_count receiver ≡ length frames
frames_count frames bytes receiver had are = had.counted ∙ caught_count frames bytes had.bytes_are are

-- one more frame, or none
ends_by : (frames more : List Frame) (bytes : List ℕ) (earlier : List AncillaryPacket) (packet : AncillaryPacket) (old new : ℕ) → old ≡ length frames → new ≡ length more
    → IsWordsFile (earlier ++ packet ∷ []) bytes
    → (IsCaption packet × ((frame : Frame) × (more ≡ frames ++ frame ∷ []))) ⊎ ((IsCaption packet → ⊥) × (more ≡ frames))
    → PieceEnds bytes old new
ends_by frames more bytes earlier packet old new was is are (inl (caption, (frame, spelled))) =
    let e = ap length spelled in
    let long = length-append frames (frame ∷ []) in
    record {
      caption = λ _. (packet, record { earlier = earlier; are = are }, caption);
      foreign = λ same packets file none. absurd (omega (arith, e, long, was, is, same));
      one = λ _. omega (arith, e, long, was, is);
    }
ends_by frames more bytes earlier packet old new was is are (inr (other, same)) =
    let e = ap length same in
    record {
      caption = λ differs. absurd (differs (omega (arith, e, was, is)));
      foreign = λ equal packets file none. (packet, record { earlier = earlier; are = are }, other);
      one = λ differs. absurd (differs (omega (arith, e, was, is)));
    }

pub piece_ends : (before piece : List ℕ) (old new : Receiver) → 0 < length piece → length piece ≤ bytes_to_end (open_behind anc_syntax before)
    → HasReceived before old → HasReceived (before ++ piece) new → PieceEnds (before ++ piece) (frame_count old) (frame_count new)
piece_ends before piece old new some few had has =
    let first = got_frames before had.bytes_are in
    let was = frames_count first.frames before old had first.are in
    elim (channel_or_none (before ++ piece) has.bytes_are) [
      | inl (frames, file) ↦
          let ends = ends_channel_bringing first.frames frames before piece some few first.are file in
          let is = frames_count frames (before ++ piece) new has (file_frames caption_channel frames (before ++ piece) file) in
          ends_by first.frames frames (before ++ piece) ends.earlier ends.packet (frame_count old) (frame_count new) was is ends.are ends.brings.brings
      | inr no_file ↦
          let is = frames_count first.frames (before ++ piece) new has (no_channel_end first.frames before piece few no_file first.are) in
          record {
            caption = λ differs. absurd (differs (is ∙ sym was));
            foreign = λ same packets file none.
                let (frames, whole) = caught_channel (before ++ piece) has.bytes_are none (file_is_read packets (before ++ piece) file).leads in
                absurd (no_file frames whole);
            one = λ differs. absurd (differs (is ∙ sym was));
          }
    ]

-- no frame ends with a piece that is refused
pub refused_counts : (before piece : List ℕ) (refusal : Refusal) (old new : Receiver) → length piece ≤ bytes_to_end (open_behind anc_syntax before)
    → refusal_of services_say (before ++ piece) ≡ Some refusal → HasReceived before old → HasReceived (before ++ piece) new → frame_count new ≡ frame_count old
refused_counts before piece refusal old new few some had has =
    let first = got_frames before had.bytes_are in
    let no_file : (others : List Frame) → IsFileUnder caption_channel others (before ++ piece) → ⊥ =
    λ others is. some_or_none (refusal_of services_say (before ++ piece)) refusal some (channel_caught others (before ++ piece) is).1 in
    let are = no_channel_end first.frames before piece few no_file first.are in
    frames_count first.frames (before ++ piece) new has are ∙ sym (frames_count first.frames before old had first.are)
