-- The packets of an MCC file: their payloads are bytes, and their frames go forward.
use Rattle.std.proofs.Common.{◌≡◌, ℕ, zero, suc, ◌+◌, ◌*◌, ◌≤◌, ◌<◌, inl, inr, List, [], ◌∷◌, Some, sym, subst, arith}
use Rattle.std.specs.Prelude.{⊤}
use Rattle.std.specs.List.{concat}
use Rattle.std.proofs.lemmas.Grind.{common_steps}
use Rattle.std.proofs.lemmas.List.Elements.{All-append, All-cons, All-nil}
use Rattle.hex_digits.specs.HexDigits.{hex_value}
use Rattle.mcc_files.specs.Lines.{AreMccLines, Line, Version, attribute, nothing, packet, rate}
use Rattle.mcc_files.specs.MccFiles.{IsMccFile, Say, SayCounted, SayPackets, TimedPackets}
use Rattle.mcc_files.specs.Items.{AreItems, IsItem}
use Rattle.mcc_files.specs.Letters.{fillers}
use Rattle.mcc_files.specs.Payloads.{IsPayload, Payload, payload_bytes}
use Rattle.mcc_files.proofs.LetterLemmas.{IsKnown, blank, captions, fills, first, identifier, known, long, second, zeros}
use Rattle.mcc_files.proofs.WrittenLemmas.{AreBytes}
use Rattle.time_codes.specs.declared.counting.Counting.{Counting}
use Rattle.mcc_files.proofs.TimeLemmas.{frame_low}

-- the bytes of items
pub one_more : (byte : ℕ) (bytes : List ℕ) → byte < 256 → AreBytes bytes → AreBytes (byte ∷ bytes)
one_more byte bytes small are = All-cons (λ b. b < 256) byte bytes small are

pub no_more : AreBytes []
no_more = All-nil (λ b. b < 256)

pub digit_small : (digit value : ℕ) → hex_value digit ≡ Some value → value < 16
digit_small digit value is = grind (arith, common_steps)

-- so are three more in front
pub three_more : (a b c : ℕ) (bytes : List ℕ) → a < 256 → b < 256 → c < 256 → AreBytes bytes → AreBytes (a ∷ b ∷ c ∷ bytes)
three_more a b c bytes a_small b_small c_small are = one_more a (b ∷ c ∷ bytes) a_small (one_more b (c ∷ bytes) b_small (one_more c bytes c_small are))

filler_bytes : (count : ℕ) → AreBytes (fillers count)
filler_bytes zero = no_more
filler_bytes (suc count) = three_more 0xFA 0 0 (fillers count) (omega arith) (omega arith) (omega arith) (filler_bytes count)

pub known_bytes : (letter : ℕ) (stands : List ℕ) → IsKnown letter stands → AreBytes stands
known_bytes letter stands (fills more few is same) = subst AreBytes (sym same) (filler_bytes (suc more))
known_bytes letter stands (blank is same) = subst AreBytes (sym same) (three_more 0xFB 0x80 0x80 [] (omega arith) (omega arith) (omega arith) no_more)
known_bytes letter stands (first is same) = subst AreBytes (sym same) (three_more 0xFC 0x80 0x80 [] (omega arith) (omega arith) (omega arith) no_more)
known_bytes letter stands (second is same) = subst AreBytes (sym same) (three_more 0xFD 0x80 0x80 [] (omega arith) (omega arith) (omega arith) no_more)
known_bytes letter stands (identifier is same) = subst AreBytes (sym same) (one_more 0x96 (0x69 ∷ []) (omega arith) (one_more 0x69 [] (omega arith) no_more))
known_bytes letter stands (captions is same) = subst AreBytes (sym same) (one_more 0x61 (0x01 ∷ []) (omega arith) (one_more 0x01 [] (omega arith) no_more))
known_bytes letter stands (long is same) =
    subst AreBytes (sym same) (one_more 0xE1 (0 ∷ 0 ∷ 0 ∷ []) (omega arith) (three_more 0 0 0 [] (omega arith) (omega arith) (omega arith) no_more))
known_bytes letter stands (zeros is same) = subst AreBytes (sym same) (one_more 0 [] (omega arith) no_more)

of_item : (bytes text : List ℕ) → IsItem bytes text → AreBytes bytes
of_item bytes text (inl digits) =
    let high = digit_small digits.high digits.first digits.high_is in
    let low = digit_small digits.low digits.second digits.low_is in
    subst AreBytes (sym digits.are) (one_more (16 * digits.first + digits.second) [] (omega (arith, high, low)) no_more)
of_item bytes text (inr letter) = known_bytes letter.letter bytes (known letter.letter bytes letter.is)

pub of_items : (items : List (List ℕ)) (text : List ℕ) → AreItems items text → AreBytes (concat items)
of_items [] text are = no_more
of_items (bytes ∷ items) text (front, rest, one, more, spelled) =
    All-append (λ b. b < 256) bytes (concat items) (of_item bytes front one) (of_items items rest more)

payload_is_bytes : (payload : Payload) (text : List ℕ) → IsPayload payload text → AreBytes (payload_bytes payload)
payload_is_bytes payload text is = subst AreBytes is.stand_for (of_items is.items text is.are)

-- the packets of lines
abbrev LinesHaveBytes : List Line → Type 0
LinesHaveBytes [] = ⊤
LinesHaveBytes (packet time payload ∷ lines) = AreBytes (payload_bytes payload) × LinesHaveBytes lines
LinesHaveBytes (line ∷ lines) = LinesHaveBytes lines

lines_bytes : (version : Version) (lines : List Line) (bytes : List ℕ) → AreMccLines version lines bytes → LinesHaveBytes lines
lines_bytes version [] bytes are = tt
lines_bytes version (nothing ∷ lines) bytes (end, spelled, rest, is_end, is, more, all) = lines_bytes version lines rest more
lines_bytes version (attribute ∷ lines) bytes (end, spelled, rest, is_end, is, more, all) = lines_bytes version lines rest more
lines_bytes version (rate count ∷ lines) bytes (end, spelled, rest, is_end, is, more, all) = lines_bytes version lines rest more
lines_bytes version (packet time payload ∷ lines) bytes (end, spelled, rest, is_end, is, more, all) =
    (payload_is_bytes payload is.payload_text is.is_payload, lines_bytes version lines rest more)

-- packets whose payloads are bytes, none before the one before it
abbrev pub GoForward : ℕ → TimedPackets → Type 0
GoForward last [] = ⊤
GoForward last (placed ∷ more) = (last ≤ placed.0) × AreBytes (payload_bytes placed.1) × GoForward placed.0 more

packets_forward : (count : Counting) (last : ℕ) (lines : List Line) (placed : TimedPackets) → LinesHaveBytes lines → SayPackets count last lines placed → GoForward last placed
packets_forward count last [] placed have say = subst (GoForward last) (sym say) tt
packets_forward count last (nothing ∷ lines) placed have say = packets_forward count last lines placed have say
packets_forward count last (attribute ∷ lines) placed have say = absurd say
packets_forward count last (rate other ∷ lines) placed have say = absurd say
packets_forward count last (packet time payload ∷ lines) placed have (frame, rest, at, more, split) =
    subst (GoForward last) (sym split) (frame_low count last time frame at, have.0, packets_forward count frame lines rest have.1 more)

counted_forward : (count : Counting) (lines : List Line) (placed : TimedPackets) → LinesHaveBytes lines → SayCounted count lines placed → GoForward 0 placed
counted_forward count [] placed have say = subst (GoForward 0) (sym say) tt
counted_forward count (nothing ∷ lines) placed have say = counted_forward count lines placed have say
counted_forward count (attribute ∷ lines) placed have say = counted_forward count lines placed have say
counted_forward count (rate other ∷ lines) placed have say = absurd say
counted_forward count (packet time payload ∷ lines) placed have say = packets_forward count 0 (packet time payload ∷ lines) placed have say

lines_forward : (lines : List Line) (placed : TimedPackets) → LinesHaveBytes lines → Say lines placed → GoForward 0 placed
lines_forward [] placed have say = subst (GoForward 0) (sym say) tt
lines_forward (nothing ∷ lines) placed have say = lines_forward lines placed have say
lines_forward (attribute ∷ lines) placed have say = lines_forward lines placed have say
lines_forward (rate count ∷ lines) placed have say = counted_forward count lines placed have say
lines_forward (packet time payload ∷ lines) placed have say = absurd say

pub file_forward : (placed : TimedPackets) (text : List ℕ) → IsMccFile placed text → GoForward 0 placed
file_forward placed text is = lines_forward is.lines placed (lines_bytes is.version is.lines is.form.rest is.form.are_lines) is.say
