-- Packets one after another, each at its frame, and the lines that are written of them.
use Rattle.std.proofs.Common.{◌≡◌, ℕ, ◌+◌, ◌-◌, ◌++◌, List, [], ◌∷◌, length, refl, ap, subst, sym, ◌∙◌, append_assoc, append-nil, arith}
use Rattle.anc_words.specs.Packets.{AncillaryPacket, IsCaption}
use Rattle.cdp_packets.specs.Packets.{Frame}
use Rattle.mcc_files.specs.MccFiles.{TimedPackets}
use Rattle.mcc_files.specs.Writing.{AreWrittenLines, IsWrittenFile, IsWrittenLine, written_head}
use Rattle.mcc_files.specs.Payloads.{Payload}
use Rattle.mcc_files.specs.PayloadWords.{payload_of}
use Rattle.mcc_words.proofs.CaptionTests.{captions_false, captions_true}
use Rattle.time_codes.specs.declared.counting.Counting.{Counting}
use Rattle.words_files.specs.Frames.{CarryFrames}
use Rattle.words_files.specs.Frames.CarryFrames.{none, caption, foreign}
use Rattle.mcc_commands.specs.Placing.{packets_placed_from, placed}

-- one packet more
more_behind : (first captions : ℕ) (packets : List AncillaryPacket) (frames : List Frame) (last : AncillaryPacket) (one : ℕ × Payload) → CarryFrames packets frames
    → packets_placed_from first (captions + length frames) (last ∷ []) ≡ one ∷ []
    → packets_placed_from first captions (packets ++ last ∷ []) ≡ packets_placed_from first captions packets ++ one ∷ []
more_behind first captions _ _ last one none is = subst (λ n. packets_placed_from first n (last ∷ []) ≡ one ∷ []) (omega arith) is
more_behind first captions _ _ last one (caption packet packets frame frames is_caption carries rest) is =
    let moved : captions + length (frame ∷ frames) ≡ (captions + 1) + length frames = omega arith in
    let next = more_behind first (captions + 1) packets frames last one rest (subst (λ n. packets_placed_from first n (last ∷ []) ≡ one ∷ []) moved is) in
    rw (captions_true (payload_of packet) is_caption) (ap (λ (l : TimedPackets). (first + captions, payload_of packet) ∷ l) next)
more_behind first captions _ _ last one (foreign packet packets frames isnt rest) is =
    let next = more_behind first captions packets frames last one rest is in
    rw (captions_false (payload_of packet) isnt) (ap (λ (l : TimedPackets). (first + (captions - 1), payload_of packet) ∷ l) next)

pub placed_caption : (first : ℕ) (packets : List AncillaryPacket) (frames : List Frame) (last : AncillaryPacket) → CarryFrames packets frames → IsCaption last
    → placed first (packets ++ last ∷ []) ≡ placed first packets ++ (first + length frames, payload_of last) ∷ []
placed_caption first packets frames last carried is =
    let from : 0 + length frames ≡ length frames = omega arith in
    more_behind first 0 packets frames last (first + length frames, payload_of last) carried
    (rw (captions_true (payload_of last) is) (ap (λ (n : ℕ). (first + n, payload_of last) ∷ []) from))

pub placed_foreign : (first : ℕ) (packets : List AncillaryPacket) (frames : List Frame) (last : AncillaryPacket) → CarryFrames packets frames → (IsCaption last → ⊥)
    → placed first (packets ++ last ∷ []) ≡ placed first packets ++ (first + (length frames - 1), payload_of last) ∷ []
placed_foreign first packets frames last carried isnt =
    let from : 0 + length frames ≡ length frames = omega arith in
    more_behind first 0 packets frames last (first + (length frames - 1), payload_of last) carried
    (rw (captions_false (payload_of last) isnt) (ap (λ (n : ℕ). (first + (n - 1), payload_of last) ∷ []) from))

-- one line more
lines_more : (count : Counting) (before : TimedPackets) (frame : ℕ) (payload : Payload) (text line : List ℕ) → AreWrittenLines count before text
    → IsWrittenLine count frame payload line → AreWrittenLines count (before ++ (frame, payload) ∷ []) (text ++ line)
lines_more count [] frame payload text line are is = (line, [], is, refl, ap (λ t. t ++ line) are ∙ sym (append-nil line))
lines_more count (one ∷ before) frame payload text line (front, rest, is_front, are, spelled) is =
    (front, rest ++ line, is_front, lines_more count before frame payload rest line are is, ap (λ t. t ++ line) spelled ∙ append_assoc front rest line)

behind_head : (head text rest line : List ℕ) → text ≡ head ++ rest → text ++ line ≡ head ++ (rest ++ line)
behind_head head text rest line is = ap (λ t. t ++ line) is ∙ append_assoc head rest line

pub written_more : (count : Counting) (before : TimedPackets) (frame : ℕ) (payload : Payload) (text line : List ℕ) → IsWrittenFile count before text
    → IsWrittenLine count frame payload line → IsWrittenFile count (before ++ (frame, payload) ∷ []) (text ++ line)
written_more count before frame payload text line is line_is = record {
  rest = is.rest ++ line;
  are = lines_more count before frame payload is.rest line is.are line_is;
  spelled = behind_head (written_head count) text is.rest line is.spelled;
}

-- a head alone is the file of no packets
pub head_written : (count : Counting) → IsWrittenFile count [] (written_head count)
head_written count = record { rest = []; are = refl; spelled = sym (append-nil (written_head count)) }
