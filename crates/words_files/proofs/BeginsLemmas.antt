-- Unrefused bytes begin a file, and bytes that begin one aren't refused.
use Rattle.std.proofs.Common.{◌≡◌, ℕ, ◌<◌, List, [], ◌++◌, None, ap, sym, subst, ◌∙◌, append_assoc, append-nil}
use Rattle.std.proofs.lemmas.List.Concat.{flat_map-append}
use Rattle.std.specs.List.{All, flat_map}
use Rattle.cc_base.specs.Feeding.{Verdict}
use Rattle.cc_base.specs.Steps.{AreAccepted, front_from}
use Rattle.cc_base.specs.Syntax.{parts_from, parts_of}
use Rattle.cc_base.proofs.StepLemmas.{AreAccepted-append, front_from-append}
use Rattle.cc_base.proofs.SyntaxLemmas.{parts_from-append}
use Rattle.anc_words.specs.Packets.{AncillaryPacket}
use Rattle.anc_words.specs.Reading.{anc_syntax, packet_parts as word_parts, word_syntax, words_after}
use Rattle.anc_words.specs.Words.{AreWords}
use Rattle.anc_words.specs.WordsFiles.{ArePackets, IsWordsFile}
use Rattle.anc_words.specs.Writing.{word_bytes}
use Rattle.anc_words.proofs.ByteLemmas.{parts-words_of, words_of-taken}
use Rattle.anc_words.proofs.ReadLemmas.{Reads-packets}
use Rattle.anc_words.proofs.SoundLemmas.{sound}
use Rattle.anc_words.proofs.WordLemmas.{AreWords-append, AreWords-flat_map, words_of}
use Rattle.anc_words.proofs.WordsFileLemmas.{ArePackets-append}
use Rattle.cdp_packets.specs.declared.parts.CdpPart.{CdpPart}
use Rattle.cdp_packets.specs.PacketParts.{packet_parts}
use Rattle.cdp_packets.specs.Packets.{Frame}
use Rattle.words_files.specs.Catching.{Caught, caught_after, caught_of, refusal_of}
use Rattle.words_files.specs.Frames.{CarryFrames}
use Rattle.words_files.specs.Offences.{AreWholeWords, Begins}
use Rattle.words_files.specs.Verdicts.{TakesFilling, layers_of}
use Rattle.words_files.proofs.CatchingLemmas.{caught_read, handed-packets, idle, unrefused_first}
use Rattle.words_files.proofs.CaughtLemmas.{newest_first, packets_caught, packets_kept}
use Rattle.words_files.proofs.FinishLemmas.{Finishes, finishes}
use Rattle.words_files.proofs.FrameLemmas.{carry-append}
use Rattle.words_files.proofs.WordLemmas.{All-split, are_spelled, packets-ten_bits}

-- the parts of words that are packets and the begin of one
pub parts-split : (bytes whole behind : List ℕ) (packets : List AncillaryPacket) → words_of bytes ≡ whole ++ behind → ArePackets packets whole
    → parts_of anc_syntax bytes ≡ flat_map word_parts packets ++ parts_from word_syntax [] behind
parts-split bytes whole behind packets spelled are =
    let reads = Reads-packets packets whole are in
    parts-words_of [] bytes ∙ ap (parts_from word_syntax []) spelled ∙ parts_from-append word_syntax [] whole behind
    ∙ ap (λ front. parts_from word_syntax [] whole ++ parts_from word_syntax front behind) reads.leads
    ∙ ap (λ ps. ps ++ parts_from word_syntax [] behind) reads.made

-- whole packets that carry frames, and the begin of one that goes on to packets, begin a file
begins_by : (v : Verdict CdpPart) (bytes whole behind : List ℕ) (packets : List AncillaryPacket) (frames : List Frame) → AreWords bytes (whole ++ behind)
    → ArePackets packets whole → CarryFrames packets frames → AreAccepted v [] (flat_map packet_parts frames)
    → Finishes v (newest_first frames) behind → Begins (layers_of v) bytes
begins_by v bytes whole behind packets frames spelled are carried accepted rest =
    let words : whole ++ (behind ++ rest.more) ≡ (whole ++ behind) ++ rest.more = sym (append_assoc whole behind rest.more) in
    let (_, small) = All-split (λ word. word < 1024) behind rest.more (packets-ten_bits rest.packets (behind ++ rest.more) rest.are) in
    let others = subst (λ ps. AreAccepted v ps (flat_map packet_parts rest.frames)) (handed-packets frames) rest.accepted in
    let file : IsWordsFile (packets ++ rest.packets) (bytes ++ flat_map word_bytes rest.more) = record {
      words = (whole ++ behind) ++ rest.more;
      spelled = AreWords-append bytes (whole ++ behind) (flat_map word_bytes rest.more) rest.more spelled (AreWords-flat_map rest.more small);
      are_packets = subst (ArePackets (packets ++ rest.packets)) words (ArePackets-append packets rest.packets whole (behind ++ rest.more) are rest.are);
    } in record {
      more = flat_map word_bytes rest.more;
      frames = frames ++ rest.frames;
      is_file = record {
        file = record { packets = packets ++ rest.packets; file = file; carried = carry-append packets rest.packets frames rest.frames carried rest.carried };
        accepted = subst (AreAccepted v []) (sym (flat_map-append packet_parts frames rest.frames))
            (AreAccepted-append v [] (flat_map packet_parts frames) (flat_map packet_parts rest.frames) accepted others);
      };
    }

-- whole words that aren't refused begin a file
pub goes_on : (v : Verdict CdpPart) → TakesFilling v → (bytes : List ℕ) → All (λ byte. byte < 256) bytes → AreWholeWords bytes → refusal_of v bytes ≡ None
    → Begins (layers_of v) bytes
goes_on v takes bytes are whole unrefused =
    let (read, kept_all) = caught_read v bytes unrefused in
    let behind = front_from words_after [] (words_of bytes) in
    let splits = sound (words_of bytes) (words_of-taken [] bytes read) in
    let parts = flat_map word_parts splits.packets in
    let open_parts = parts_from word_syntax [] behind in
    let all = ap (λ ps. (caught_of v ps).refused) (sym (parts-split bytes splits.whole behind splits.packets splits.spelled splits.are)) ∙ kept_all in
    let kept = packets_kept v [] splits.packets (unrefused_first v (idle []) parts open_parts all) in
    let state : front_from (caught_after v) (idle []) parts ≡ idle (newest_first kept.frames) =
    packets_caught v [] splits.packets kept.frames kept.carried kept.accepted ∙ ap idle (append-nil (newest_first kept.frames)) in
    let last = ap (λ (c : Caught). (front_from (caught_after v) c open_parts).refused) (sym state)
    ∙ ap (λ (c : Caught). c.refused) (sym (front_from-append (caught_after v) (idle []) parts open_parts)) ∙ all in
    let rest = finishes v takes (newest_first kept.frames) (subst (AreAccepted v []) (sym (handed-packets kept.frames)) kept.accepted) behind splits.begun last in
    begins_by v bytes splits.whole behind splits.packets kept.frames (subst (AreWords bytes) splits.spelled (are_spelled bytes are read whole)) splits.are
    kept.carried kept.accepted rest
