-- The words of an MCC file's packets are a words file, whose frames stand apart as the packets of captions do.
use Rattle.std.proofs.Common.{◌≡◌, ℕ, ◌≤◌, ◌<◌, Bool, true, false, cond, inl, inr, List, [], ◌∷◌, ◌++◌, length, map, Option, Some, None, refl, ap, sym, ◌∙◌, subst, arith}
use Rattle.std.specs.Prelude.{All}
use Rattle.std.specs.List.{flat_map}
use Rattle.std.proofs.lemmas.List.Elements.{All-cons, All-nil}
use Rattle.anc_words.proofs.PacketLemmas.{packet_bytes-is, user_bytes-packet_of}
use Rattle.anc_words.proofs.WordsFileLemmas.{IsWordsFile-one}
use Rattle.anc_words.specs.Writing.{packet_bytes, packet_of}
use Rattle.cdp_packets.specs.Packets.{Frame, IsCdp}
use Rattle.mcc_files.specs.MccFiles.{IsMccFile, TimedPackets}
use Rattle.mcc_files.specs.Payloads.{Payload, payload_bytes}
use Rattle.mcc_files.specs.PayloadWords.{payload_words}
use Rattle.mcc_files.proofs.WordLemmas.{payload_is_packet, user_of_bytes}
use Rattle.mcc_files.proofs.WrittenLemmas.{AreBytes}
use Rattle.mcc_words.specs.MccWords.{AreCaptionWords, AreMccWords, AreWordsBehind, carries_captions, first_number, missing, missing_words}
use Rattle.mcc_words.specs.declared.maker.Before.{Before}
use Rattle.words_files.specs.Frames.{IsFileOf, caption, foreign, none}
use Rattle.words_files.proofs.FrameLemmas.{joined, one_list}
use Rattle.mcc_words.proofs.CaptionTests.{no_captions}
use Rattle.mcc_words.specs.Standing.{AreSpaced, IsPart, IsWithoutCaptions, PacketsStandApart, CaptionPart, WordsHaveFrames, caption_packets, part_frames, placed_packet}
use Rattle.mcc_words.proofs.FileLemmas.{GoForward, file_forward}
use Rattle.mcc_words.proofs.RaisedLemmas.{raised_bytes, raised_counter, raised_length, raised_packet}
use Rattle.mcc_words.proofs.WithoutLemmas.{has_without, no_frames}

-- the packets of captions come first
pub own_first : (placed : ℕ × Payload) (more : TimedPackets) → carries_captions placed.1 ≡ true → caption_packets (placed ∷ more) ≡ placed ∷ caption_packets more
own_first placed more is = ap (λ (test : Bool). cond test (placed ∷ caption_packets more) (caption_packets more)) is

pub other_first : (placed : ℕ × Payload) (more : TimedPackets) → carries_captions placed.1 ≡ false → caption_packets (placed ∷ more) ≡ caption_packets more
other_first placed more other = ap (λ (test : Bool). cond test (placed ∷ caption_packets more) (caption_packets more)) other

-- the words of another packet bring no frame
foreign_file : (payload : Payload) → AreBytes (payload_bytes payload) → carries_captions payload ≡ false → IsFileOf [] (payload_words payload)
foreign_file payload bytes other = record {
  packets = packet_of payload.did payload.sdid payload.user ∷ [];
  file = IsWordsFile-one (packet_of payload.did payload.sdid payload.user) (payload_words payload) (payload_is_packet payload bytes);
  carried = foreign (packet_of payload.did payload.sdid payload.user) [] [] (no_captions payload other) none;
}

-- the words of a distribution packet bring its frame
own_file : (frame : Frame) (user : List ℕ) → AreBytes user → length user ≤ 255 → IsCdp frame user → IsFileOf (frame ∷ []) (packet_bytes 0x61 0x01 user)
own_file frame user bytes few is = record {
  packets = packet_of 0x61 0x01 user ∷ [];
  file = IsWordsFile-one (packet_of 0x61 0x01 user) (packet_bytes 0x61 0x01 user) (packet_bytes-is 0x61 0x01 user (omega arith) (omega arith) few bytes);
  carried = caption (packet_of 0x61 0x01 user) [] frame [] (refl, refl) (subst (IsCdp frame) (sym (user_bytes-packet_of 0x61 0x01 user bytes)) is) none;
}

-- the frame of the packet of captions before
abbrev frame_before : Option Before → Option ℕ
frame_before None = None
frame_before (Some before) = Some before.frame

-- the frames that are missing before a packet of captions
record HasMissing (before : Option Before) (frame : ℕ) : Type 0 where
  frames : List Frame
  file : IsFileOf frames (missing_words before frame)
  without : All IsWithoutCaptions frames
  apart : (payload : Payload) (own : Frame) (more : List CaptionPart) → AreSpaced (Some frame) more
      → AreSpaced (frame_before before) (record { at = frame; payload = payload; missing = frames; own = own } ∷ more)

has_missing : (before : Option Before) (frame : ℕ) → HasMissing before frame
has_missing None frame = record { frames = []; file = no_frames; without = All-nil IsWithoutCaptions; apart = λ payload own more rest. (refl, rest) }
has_missing (Some before) frame =
    let has = has_without before.rate (first_number before) (missing (Some before.frame) frame) in
    record { frames = has.frames; file = has.file; without = has.are; apart = λ payload own more rest. (has.number, rest) }

-- the frames of packets after others
record HasParts (before : Option ℕ) (placed : TimedPackets) (words : List ℕ) : Type 0 where
  parts : List CaptionPart
  are : All IsPart parts
  packets : map placed_packet parts ≡ caption_packets placed
  apart : AreSpaced before parts
  file : IsFileOf (flat_map part_frames parts) words

own_parts : (before after : Option Before) (placed : ℕ × Payload) (more : TimedPackets) (front rest words : List ℕ) → AreBytes (payload_bytes placed.1) → carries_captions placed.1 ≡ true
    → AreCaptionWords before placed.0 placed.1.user front after → HasParts (Some placed.0) more rest → words ≡ front ++ rest
    → HasParts (frame_before before) (placed ∷ more) words
own_parts before after placed more front rest words bytes is own behind spelled =
    let missing = has_missing before placed.0 in
    let count : length placed.1.user < 256 = bytes 2 placed.0 (omega arith) in
    let user = user_of_bytes placed.1 bytes in
    let raised = own.is_raised in
    let frame : Frame = record own.packet { counter = raised_counter _ placed.1.user own.raised raised } in
    let long = raised_length _ placed.1.user own.raised raised in
    let file = own_file frame own.raised (raised_bytes _ placed.1.user own.raised raised user) (omega (arith, count, long)) (raised_packet own.packet _ placed.1.user own.raised own.is raised) in
    let both : IsFileOf (missing.frames ++ frame ∷ []) front =
    subst (IsFileOf (missing.frames ++ frame ∷ [])) (sym own.spelled) (joined missing.frames (frame ∷ []) (missing_words before placed.0) (packet_bytes 0x61 0x01 own.raised) missing.file file) in
    let part : CaptionPart = record { at = placed.0; payload = placed.1; missing = missing.frames; own = frame } in
    record {
      parts = part ∷ behind.parts;
      are = All-cons IsPart part behind.parts
          (record { without = missing.without; own = record { packet = own.packet; counter = raised_counter _ placed.1.user own.raised raised; carries = own.is; is = refl } }) behind.are;
      packets = ap (λ (l : TimedPackets). placed ∷ l) behind.packets ∙ sym (own_first placed more is);
      apart = missing.apart placed.1 frame behind.parts behind.apart;
      file = subst (IsFileOf ((missing.frames ++ frame ∷ []) ++ flat_map part_frames behind.parts)) (sym spelled)
          (joined (missing.frames ++ frame ∷ []) (flat_map part_frames behind.parts) front rest both behind.file);
    }

parts_of : (before after : Option Before) (last : ℕ) (placed : TimedPackets) (words : List ℕ) → GoForward last placed → AreWordsBehind before placed words after
    → HasParts (frame_before before) placed words
parts_of before after last [] words forward (nothing, same) = record {
  parts = [];
  are = All-nil IsPart;
  packets = refl;
  apart = tt;
  file = subst (IsFileOf []) (sym nothing) no_frames;
}
parts_of before after last (placed ∷ more) words forward (front, rest, middle, inl (is, own), behind, spelled) =
    let others = subst (λ (b : Option ℕ). HasParts b more rest) (ap frame_before own.after_is) (parts_of middle after placed.0 more rest forward.2 behind) in
    own_parts before middle placed more front rest words forward.1 is own others spelled
parts_of before after last (placed ∷ more) words forward (front, rest, middle, inr (other, own, same), behind, spelled) =
    let others = subst (λ (b : Option ℕ). HasParts b more rest) (ap frame_before same) (parts_of middle after placed.0 more rest forward.2 behind) in
    record {
      parts = others.parts;
      are = others.are;
      packets = others.packets ∙ sym (other_first placed more other);
      apart = others.apart;
      file = subst (IsFileOf (flat_map part_frames others.parts)) (sym spelled)
          (joined [] (flat_map part_frames others.parts) front rest (subst (IsFileOf []) (sym own) (foreign_file placed.1 forward.1 other)) others.file);
    }

file_parts : (placed : TimedPackets) (text words : List ℕ) → IsMccFile placed text → AreMccWords placed words → HasParts None placed words
file_parts placed text words is are = parts_of None are.after 0 placed words (file_forward placed text is) are.are

pub words_have_frames : WordsHaveFrames
words_have_frames placed text words is are = let has = file_parts placed text words is are in (flat_map part_frames has.parts, has.file)

pub packets_stand_apart : PacketsStandApart
packets_stand_apart placed text words frames is are file =
    let has = file_parts placed text words is are in
    record {
      parts = has.parts;
      are = has.are;
      packets = has.packets;
      apart = has.apart;
      frames_are = one_list frames (flat_map part_frames has.parts) words file has.file;
    }
