-- The text that is put of exported packets is an MCC file.
use Rattle.std.proofs.Common.{◌≡◌, ℕ, ◌+◌, ◌-◌, ◌<◌, ◌≤◌, ◌++◌, inl, inr, Bool, true, false, List, [], ◌∷◌, length, Option, Some, None, Result, Ok, ap, sym, subst, ◌∙◌, arith}
use Rattle.std.specs.List.{All}
use Rattle.std.proofs.lemmas.List.Elements.{All-head, All-tail}
use Rattle.std.specs.Prelude.{if◌then◌else◌}
use Rattle.anc_words.specs.Packets.{AncillaryPacket}
use Rattle.anc_words.specs.WordsFiles.{IsWordsFile}
use Rattle.anc_words.proofs.WordsFileLemmas.{IsWordsFile-first}
use Rattle.cdp_packets.specs.Packets.{Frame}
use Rattle.cc_base.specs.declared.refusal.Refusal.{Refusal}
use Rattle.mcc_files.proofs.FileLemmas.{written_is_file}
use Rattle.mcc_files.proofs.FileReads.{file_is_read}
use Rattle.mcc_files.specs.MccFiles.{IsMccFile, TimedPackets}
use Rattle.mcc_files.specs.Reading.{read_file}
use Rattle.mcc_files.specs.Writing.{AreWritable}
use Rattle.mcc_files.proofs.WordLemmas.{low_bytes, packet_is_payload}
use Rattle.mcc_files.specs.PayloadWords.{payload_of, payload_words}
use Rattle.mcc_words.proofs.CaptionTests.{captions_false, captions_true}
use Rattle.mcc_words.proofs.CloseLemmas.{close_as_they_came}
use Rattle.mcc_words.specs.Close.{AreClose, HaveBytes, IsClose, words_as_they_came}
use Rattle.mcc_words.specs.MccWords.{AreMccWords, carries_captions}
use Rattle.services_files.specs.CaptionChannel.{caption_channel}
use Rattle.time_codes.specs.Countings.{day_frames_in}
use Rattle.time_codes.specs.declared.counting.Counting.{Counting}
use Rattle.words_files.proofs.FramesOfLemmas.{empty_file}
use Rattle.words_files.specs.Frames.{CarryFrames}
use Rattle.words_files.specs.Frames.CarryFrames.{none, caption, foreign}
use Rattle.words_files.specs.Offences.{IsFileUnder}
use Rattle.mcc_commands.specs.ExportMcc.{IsMccOf}
use Rattle.mcc_commands.specs.Exported.{AreExportedAsMcc, IsOfBytes}
use Rattle.mcc_commands.specs.Placing.{packets_placed_from, placed}
use Rattle.mcc_commands.specs.declared.start.Start.{Start}

-- packets of bytes, each at its frame, of which none is before the one before it
pub writable_from : (count : Counting) (first captions last : ℕ) (packets : List AncillaryPacket) (frames : List Frame) (bytes : List ℕ) → CarryFrames packets frames
    → IsWordsFile packets bytes → All IsOfBytes packets → first + (captions + length frames) ≤ day_frames_in count → first < day_frames_in count
    → last ≤ first + (captions - 1) → AreWritable count last (packets_placed_from first captions packets)
writable_from count first captions last _ _ bytes none is eight within below above = tt
writable_from count first captions last _ _ bytes (caption packet packets frame frames is_caption carries carried) is eight within below above =
    let (front, rest, spelled, is_packet, others) = IsWordsFile-first packet packets bytes is in
    let small = (packet_is_payload packet front (All-head IsOfBytes packet packets eight) is_packet).0 in
    let next = writable_from count first (captions + 1) (first + captions) packets frames rest carried others (All-tail IsOfBytes packet packets eight)
    (omega (arith, within)) below (omega arith) in
    rw (captions_true (payload_of packet) is_caption) (omega (arith, above), omega (arith, within), small, next)
writable_from count first captions last _ _ bytes (foreign packet packets frames isnt carried) is eight within below above =
    let (front, rest, spelled, is_packet, others) = IsWordsFile-first packet packets bytes is in
    let small = (packet_is_payload packet front (All-head IsOfBytes packet packets eight) is_packet).0 in
    let next = writable_from count first captions (first + (captions - 1)) packets frames rest carried others (All-tail IsOfBytes packet packets eight)
    within below (omega arith) in
    rw (captions_false (payload_of packet) isnt) (above, omega (arith, within, below), small, next)

pub exported_file : (start : Start) (frames : List Frame) (file text : List ℕ) (is_file : IsFileUnder caption_channel frames file) → start.first < day_frames_in start.count
    → IsMccOf start frames file is_file text → IsMccFile (placed start.first is_file.file.packets) text
exported_file start frames file text is_file below mcc =
    let within = mcc.fit.within_day in
    written_is_file start.count (placed start.first is_file.file.packets) text
    (writable_from start.count start.first 0 0 is_file.file.packets frames file is_file.file.carried is_file.file.file mcc.fit.of_bytes (omega (arith, within)) below (omega arith))
    mcc.written

-- the packets of a file of exported ones have its words
words_from : (first captions : ℕ) (packets : List AncillaryPacket) (bytes : List ℕ) → IsWordsFile packets bytes → All IsOfBytes packets
    → words_as_they_came (packets_placed_from first captions packets) ≡ bytes
words_from first captions [] bytes is eight = sym (empty_file bytes is)
words_from first captions (packet ∷ packets) bytes is eight =
    let (front, rest, spelled, is_packet, others) = IsWordsFile-first packet packets bytes is in
    let written : front ≡ payload_words (payload_of packet) = (packet_is_payload packet front (All-head IsOfBytes packet packets eight) is_packet).1 in
    by_test (carries_captions (payload_of packet)) (λ n.
    let next = words_from first n packets rest others (All-tail IsOfBytes packet packets eight) in
    ap (λ w. w ++ words_as_they_came (packets_placed_from first n packets)) (sym written) ∙ (ap (λ r. front ++ r) next ∙ sym spelled))
  where
    by_test : (test : Bool) → ((n : ℕ) → payload_words (payload_of packet) ++ words_as_they_came (packets_placed_from first n packets) ≡ bytes)
        → words_as_they_came (if test then (first + captions, payload_of packet) ∷ packets_placed_from first (captions + 1) packets
        else (first + (captions - 1), payload_of packet) ∷ packets_placed_from first captions packets) ≡ bytes
    by_test true more = more (captions + 1)
    by_test false more = more captions

pub exported_words : (start : Start) (frames : List Frame) (file : List ℕ) (is_file : IsFileUnder caption_channel frames file)
    → AreExportedAsMcc start is_file.file.packets frames → words_as_they_came (placed start.first is_file.file.packets) ≡ file
exported_words start frames file is_file fit = words_from start.first 0 is_file.file.packets file is_file.file.file fit.of_bytes

-- packets of captions stand at consecutive frames
close_from : (first captions : ℕ) (last : Option ℕ) (packets : List AncillaryPacket) (frames : List Frame) → CarryFrames packets frames → IsClose last (first + captions)
    → AreClose last (packets_placed_from first captions packets)
close_from first captions last _ _ none close = tt
close_from first captions last _ _ (caption packet packets frame frames is carries carried) close =
    let next = close_from first (captions + 1) (Some (first + captions)) packets frames carried (omega arith) in
    rw (captions_true (payload_of packet) is) (inl (captions_true (payload_of packet) is, close, next))
close_from first captions last _ _ (foreign packet packets frames isnt carried) close =
    let next = close_from first captions last packets frames carried close in
    rw (captions_false (payload_of packet) isnt) (inr (captions_false (payload_of packet) isnt, next))

-- their user bytes are bytes
bytes_from : (first captions : ℕ) (packets : List AncillaryPacket) → HaveBytes (packets_placed_from first captions packets)
bytes_from first captions [] = tt
bytes_from first captions (packet ∷ packets) = by_test (carries_captions (payload_of packet)) (λ n. bytes_from first n packets)
  where
    by_test : (test : Bool) → ((n : ℕ) → HaveBytes (packets_placed_from first n packets))
        → HaveBytes (if test then (first + captions, payload_of packet) ∷ packets_placed_from first (captions + 1) packets
        else (first + (captions - 1), payload_of packet) ∷ packets_placed_from first captions packets)
    by_test true more = (low_bytes packet.user, more (captions + 1))
    by_test false more = (low_bytes packet.user, more captions)

-- bytes are a file of one list of packets
one_placed : (one other : TimedPackets) (result : Result TimedPackets Refusal) → result ≡ Ok one → result ≡ Ok other → one ≡ other
one_placed one other result is also = cc

-- so the words of the MCC file are those that were exported
pub imported_words : (start : Start) (frames : List Frame) (file text words : List ℕ) (is_file : IsFileUnder caption_channel frames file) (other : TimedPackets)
    → start.first < day_frames_in start.count → IsMccOf start frames file is_file text → IsMccFile other text → AreMccWords other words → words ≡ file
imported_words start frames file text words is_file other below mcc is_mcc are =
    let packets = is_file.file.packets in
    let mine = file_is_read (placed start.first packets) text (exported_file start frames file text is_file below mcc) in
    let same = one_placed (placed start.first packets) other (read_file text) mine (file_is_read other text is_mcc) in
    close_as_they_came (placed start.first packets) words (close_from start.first 0 None packets frames is_file.file.carried tt) (bytes_from start.first 0 packets)
    (subst (λ (p : TimedPackets). AreMccWords p words) (sym same) are)
    ∙ exported_words start frames file is_file mcc.fit
