-- Packets that an MCC file carries, and their MCC file.
use Rattle.std.proofs.Common.{◌≡◌, ℕ, ◌+◌, ◌-◌, ◌%◌, ◌<◌, ◌≤◌, ◌++◌, true, List, [], ◌∷◌, length, refl, sym, subst, ◌∙◌, length-append, arith}
use Rattle.std.proofs.lemmas.List.Elements.{All-append, All-cons, All-head, All-nil, All-weaker}
use Rattle.anc_words.specs.EightBitWords.{IsEightBit}
use Rattle.anc_words.specs.Packets.{AncillaryPacket, IsCaption, IsUserWord}
use Rattle.anc_words.specs.WordsFiles.{IsPacketBytes, IsWordsFile}
use Rattle.anc_words.proofs.WordsFileLemmas.{IsWordsFile-append, IsWordsFile-nil, IsWordsFile-one, IsWordsFile-unique}
use Rattle.cdp_packets.specs.Packets.{Frame}
use Rattle.mcc_files.specs.Writing.{IsWrittenFile, IsWrittenLine, written_head}
use Rattle.mcc_files.specs.PayloadWords.{payload_of}
use Rattle.services_files.specs.CaptionChannel.{caption_channel}
use Rattle.time_codes.specs.Countings.{day_frames_in}
use Rattle.time_codes.specs.declared.counting.Counting.{Counting}
use Rattle.time_codes.specs.declared.counting.Counting.TheVariants as counting
use Rattle.words_files.specs.Offences.{IsFileUnder}
use Rattle.mcc_commands.proofs.PlacingLemmas.{head_written, placed_caption, placed_foreign, written_more}
use Rattle.mcc_commands.specs.ExportMcc.{IsMccOf}
use Rattle.mcc_commands.specs.Exported.{AreExportedAsMcc, HaveOneRate, IsOfBytes, counts_rate, expected_rate}
use Rattle.mcc_commands.specs.ExportSteps.{HasRate}
use Rattle.mcc_commands.specs.Placing.{placed}
use Rattle.mcc_commands.specs.declared.start.Start.{Start}

-- a count can count the rate that it expects
pub expected_counted : (count : Counting) → counts_rate count (expected_rate count) ≡ true
expected_counted counting.F24 = refl
expected_counted counting.F25 = refl
expected_counted counting.F30 = refl
expected_counted counting.F30Drop = refl
expected_counted counting.F50 = refl
expected_counted counting.F60 = refl
expected_counted counting.F60Drop = refl

-- a packet of captions is one of bytes
pub caption_of_bytes : (packet : AncillaryPacket) (bytes : List ℕ) → IsPacketBytes packet bytes → IsCaption packet → IsOfBytes packet
caption_of_bytes packet bytes is caption =
    All-weaker (IsUserWord packet) (λ word. IsEightBit (word % 256) word) (λ word has. has.caption caption) packet.user is.is_packet.has_user

-- frames of one rate, and one more of a rate that is expected
pub one_rate : (count : Counting) (frames : List Frame) (last : Frame) → HaveOneRate count frames → HasRate count frames last.rate → HaveOneRate count (frames ++ last ∷ [])
one_rate count [] last have has =
    record { one = last.rate; counted = has; all = All-cons (λ f. f.rate ≡ last.rate) last [] refl (All-nil (λ f. f.rate ≡ last.rate)) }
one_rate count (first ∷ frames) last have (counted, same) =
    let P : Frame → Type 0 = λ f. f.rate ≡ have.one in
    let is : last.rate ≡ have.one = same ∙ All-head P first frames have.all in
    record { one = have.one; counted = have.counted; all = All-append P (first ∷ frames) (last ∷ []) have.all (All-cons P last [] is (All-nil P)) }

-- packets that are exported, and one more
exported_more : (start : Start) (packets : List AncillaryPacket) (frames more : List Frame) (last : AncillaryPacket) → AreExportedAsMcc start packets frames → HaveOneRate start.count more
    → IsOfBytes last → start.first + length more ≤ day_frames_in start.count → AreExportedAsMcc start (packets ++ last ∷ []) more
exported_more start packets frames more last fit rates of_bytes within = record {
  rates = rates;
  of_bytes = All-append IsOfBytes packets (last ∷ []) fit.of_bytes (All-cons IsOfBytes last [] of_bytes (All-nil IsOfBytes));
  within_day = within;
}

-- what is said of packets of a file is said of those that the file is known by
pub mcc_of : (start : Start) (frames : List Frame) (file : List ℕ) (is_file : IsFileUnder caption_channel frames file) (packets : List AncillaryPacket) (text : List ℕ)
    → IsWordsFile packets file → AreExportedAsMcc start packets frames → IsWrittenFile start.count (placed start.first packets) text → IsMccOf start frames file is_file text
mcc_of start frames file is_file packets text are fit written =
    let same : packets ≡ is_file.file.packets = IsWordsFile-unique packets is_file.file.packets file are is_file.file.file in
    record {
      fit = subst (λ ps. AreExportedAsMcc start ps frames) same fit;
      written = subst (λ ps. IsWrittenFile start.count (placed start.first ps) text) same written;
    }

pub mcc_same : (start : Start) (frames : List Frame) (file text : List ℕ) (one other : IsFileUnder caption_channel frames file) → IsMccOf start frames file one text
    → IsMccOf start frames file other text
mcc_same start frames file text one other mcc = mcc_of start frames file other one.file.packets text one.file.file mcc.fit mcc.written

-- the head alone stands for no packets
pub mcc_nothing : (start : Start) (is_file : IsFileUnder caption_channel [] []) → start.first < day_frames_in start.count → IsMccOf start [] [] is_file (written_head start.count)
mcc_nothing start is_file below =
    mcc_of start [] [] is_file [] (written_head start.count) IsWordsFile-nil
    (record {
      rates = record { one = expected_rate start.count; counted = expected_counted start.count; all = All-nil (λ f. f.rate ≡ expected_rate start.count) };
      of_bytes = All-nil IsOfBytes;
      within_day = omega (arith, below);
    })
    (head_written start.count)

-- a packet after a file
whole_file : (frames : List Frame) (file bytes : List ℕ) (is_file : IsFileUnder caption_channel frames file) (packet : AncillaryPacket) → IsPacketBytes packet bytes
    → IsWordsFile (is_file.file.packets ++ packet ∷ []) (file ++ bytes)
whole_file frames file bytes is_file packet is =
    IsWordsFile-append is_file.file.packets (packet ∷ []) file bytes is_file.file.file (IsWordsFile-one packet bytes is)

-- one that isn't of captions
pub mcc_foreign : (start : Start) (frames : List Frame) (file bytes text line : List ℕ) (is_file : IsFileUnder caption_channel frames file)
    (next : IsFileUnder caption_channel frames (file ++ bytes)) (packet : AncillaryPacket) → IsMccOf start frames file is_file text → IsPacketBytes packet bytes
    → (IsCaption packet → ⊥) → IsOfBytes packet → IsWrittenLine start.count (start.first + (length frames - 1)) (payload_of packet) line
    → IsMccOf start frames (file ++ bytes) next (text ++ line)
mcc_foreign start frames file bytes text line is_file next packet mcc is isnt of_bytes written =
    let packets = is_file.file.packets in
    mcc_of start frames (file ++ bytes) next (packets ++ packet ∷ []) (text ++ line) (whole_file frames file bytes is_file packet is)
    (exported_more start packets frames frames packet mcc.fit mcc.fit.rates of_bytes mcc.fit.within_day)
    (subst (λ p. IsWrittenFile start.count p (text ++ line)) (sym (placed_foreign start.first packets frames packet is_file.file.carried isnt))
    (written_more start.count (placed start.first packets) (start.first + (length frames - 1)) (payload_of packet) text line mcc.written written))

-- one of captions
pub mcc_caption : (start : Start) (frames : List Frame) (last : Frame) (file bytes text line : List ℕ) (is_file : IsFileUnder caption_channel frames file)
    (next : IsFileUnder caption_channel (frames ++ last ∷ []) (file ++ bytes)) (packet : AncillaryPacket) → IsMccOf start frames file is_file text → IsPacketBytes packet bytes
    → IsCaption packet → HasRate start.count frames last.rate → start.first + length frames < day_frames_in start.count
    → IsWrittenLine start.count (start.first + length frames) (payload_of packet) line → IsMccOf start (frames ++ last ∷ []) (file ++ bytes) next (text ++ line)
mcc_caption start frames last file bytes text line is_file next packet mcc is caption has_rate below written =
    let packets = is_file.file.packets in
    let long = length-append frames (last ∷ []) in
    mcc_of start (frames ++ last ∷ []) (file ++ bytes) next (packets ++ packet ∷ []) (text ++ line) (whole_file frames file bytes is_file packet is)
    (exported_more start packets frames (frames ++ last ∷ []) packet mcc.fit (one_rate start.count frames last mcc.fit.rates has_rate)
    (caption_of_bytes packet bytes is caption) (omega (arith, below, long)))
    (subst (λ p. IsWrittenFile start.count p (text ++ line)) (sym (placed_caption start.first packets frames packet is_file.file.carried caption))
    (written_more start.count (placed start.first packets) (start.first + length frames) (payload_of packet) text line mcc.written written))
