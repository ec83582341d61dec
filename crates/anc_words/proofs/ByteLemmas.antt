-- What is read of bytes is what is read of the words that they spell.
use Rattle.std.proofs.Common.{◌≡◌, ℕ, ◌+◌, ◌*◌, ◌<◌, List, [], ◌∷◌, ◌++◌, Option, Some, None, refl, ap, sym, subst, ◌∙◌, arith, append-nil, append_assoc}
use Rattle.std.proofs.lemmas.List.Elements.{recursion_from_All, All-append, All-from_recursion}
use Rattle.std.specs.List.{All, AllByRecursion, flat_map}
use Rattle.cc_base.specs.declared.step.Step.TheVariants.{Refuse}
use Rattle.cc_base.specs.declared.why.Why.{Why}
use Rattle.cc_base.specs.declared.why.Why.TheVariants as why
use Rattle.cc_base.specs.Feeding.{Verdict}
use Rattle.cc_base.specs.Steps.{AreAccepted, IsTaken, front_from, step_parts}
use Rattle.cc_base.specs.Syntax.{AllTaken, Reads, open_behind, parts_from, read_under}
use Rattle.cc_base.proofs.SyntaxLemmas.{AllTaken-split, read_under-reads}
use Rattle.anc_words.specs.declared.parts.WordPart.{WordPart}
use Rattle.anc_words.specs.Words.{AreWords}
use Rattle.anc_words.specs.Packets.{AncillaryPacket}
use Rattle.anc_words.specs.WordsFiles.{ArePackets, IsWordsFile}
use Rattle.anc_words.specs.Writing.{word_bytes}
use Rattle.anc_words.specs.Reading.{word_syntax, anc_syntax, Open, judge_byte, judge_ten_bits, judge_word, nothing_open, open_after, packet_parts, words_after}
use Rattle.anc_words.proofs.WordLemmas.{words_of, AreWords-words, AreWords-append, AreWords-flat_map}
use Rattle.anc_words.proofs.PacketLemmas.{IsPacket-ten_bits}
use Rattle.anc_words.proofs.WordsFileLemmas.{ArePackets-append}
use Rattle.anc_words.proofs.ReadLemmas.{Reads-packets}
use Rattle.anc_words.proofs.SoundLemmas.{Splits, IsTaken-if, sound, test-below}
use Rattle.anc_words.proofs.CompleteLemmas.{completes}

-- a byte
abbrev pub IsByte : ℕ → Type 0
IsByte byte = byte < 256

-- no half of a word, and these words of a packet
abbrev at_words : List ℕ → Open
at_words words = record { high = None; words = words }

-- the high byte that is left of an odd number of bytes
abbrev pub last_high : List ℕ → Option ℕ
last_high [] = None
last_high (high ∷ []) = Some high
last_high (high ∷ low ∷ bytes) = last_high bytes

-- the words of bytes that are taken
pub words_of-taken : (front bytes : List ℕ) → AllTaken anc_syntax (at_words front) bytes → AllTaken word_syntax front (words_of bytes)
words_of-taken front [] taken = tt
words_of-taken front (high ∷ []) taken = tt
words_of-taken front (high ∷ low ∷ bytes) (_, (is, taken)) = (is, words_of-taken (words_after front (256 * high + low)) bytes taken)

-- and the other way round
pub taken-words_of : (front bytes : List ℕ) → AllTaken word_syntax front (words_of bytes) → AllTaken anc_syntax (at_words front) bytes
taken-words_of front [] taken = tt
taken-words_of front (high ∷ []) taken = (tt, tt)
taken-words_of front (high ∷ low ∷ bytes) (is, taken) = (tt, (is, taken-words_of (words_after front (256 * high + low)) bytes taken))

-- their parts
pub parts-words_of : (front bytes : List ℕ)
    → parts_from anc_syntax (at_words front) bytes ≡ parts_from word_syntax front (words_of bytes)
parts-words_of front [] = refl
parts-words_of front (high ∷ []) = refl
parts-words_of front (high ∷ low ∷ bytes) =
    ap (λ parts. step_parts (judge_word front (256 * high + low)) ++ parts) (parts-words_of (words_after front (256 * high + low)) bytes)

-- what is open after them
pub open-words_of : (front bytes : List ℕ)
    → front_from open_after (at_words front) bytes ≡ record { high = last_high bytes; words = front_from words_after front (words_of bytes) }
open-words_of front [] = refl
open-words_of front (high ∷ []) = refl
open-words_of front (high ∷ low ∷ bytes) = open-words_of (words_after front (256 * high + low)) bytes

-- bytes that are taken are words, if their number is even
AreWords-taken : (front bytes : List ℕ) → AllByRecursion IsByte bytes → AllTaken word_syntax front (words_of bytes) → last_high bytes ≡ None
    → AreWords bytes (words_of bytes)
AreWords-taken front [] are taken none = tt
AreWords-taken front (high ∷ []) are taken none = absurd cc
AreWords-taken front (high ∷ low ∷ bytes) (_, (byte, are)) (is, taken) none =
    let (test, _) = IsTaken-if _ (judge_ten_bits front (256 * high + low)) why.HighBits is in
    let below = test-below (256 * high + low) 0x400 test in
    (record { zeros = omega arith; byte = byte; value = refl }, AreWords-taken (words_after front (256 * high + low)) bytes are taken none)

-- words have an even number of bytes
last_high-words : (bytes words : List ℕ) → AreWords bytes words → last_high bytes ≡ None
last_high-words [] [] are = refl
last_high-words [] (word ∷ words) are = absurd are
last_high-words (high ∷ []) words are = absurd are
last_high-words (high ∷ low ∷ bytes) [] are = absurd are
last_high-words (high ∷ low ∷ bytes) (word ∷ words) (_, are) = last_high-words bytes words are

-- a file is read, and leaves nothing open
pub file_is_read : (packets : List AncillaryPacket) (bytes : List ℕ) → IsWordsFile packets bytes
    → Reads anc_syntax nothing_open bytes (flat_map packet_parts packets) nothing_open
file_is_read packets bytes is =
    let words : words_of bytes ≡ is.words = AreWords-words bytes is.words is.spelled in
    let reads = subst (λ ws. Reads word_syntax [] ws (flat_map packet_parts packets) []) (sym words) (Reads-packets packets is.words is.are_packets) in record {
      taken = taken-words_of [] bytes reads.taken;
      made = parts-words_of [] bytes ∙ reads.made;
      leads = open-words_of [] bytes ∙ ap (λ high. let o : Open = record { high = high; words = front_from words_after [] (words_of bytes) } in o) (last_high-words bytes is.words is.spelled)
          ∙ ap (λ ws. let o : Open = record { high = None; words = ws } in o) reads.leads;
    }

-- what is read and leaves nothing open is a file
pub what_is_read_is_file : (bytes : List ℕ) → All IsByte bytes → AllTaken anc_syntax nothing_open bytes
    → open_behind anc_syntax bytes ≡ nothing_open → (packets : List AncillaryPacket) × IsWordsFile packets bytes
what_is_read_is_file bytes are taken nothing =
    let open_is = sym (open-words_of [] bytes) ∙ nothing in
    let none : last_high bytes ≡ None = ap (λ (o : Open). o.high) open_is in
    let empty : front_from words_after [] (words_of bytes) ≡ [] = ap (λ (o : Open). o.words) open_is in
    let words = words_of-taken [] bytes taken in
    let splits = subst (λ behind. Splits (words_of bytes) behind) empty (sound (words_of bytes) words) in (
      splits.packets,
      record {
        words = words_of bytes;
        spelled = AreWords-taken [] bytes (recursion_from_All IsByte bytes are) words none;
        are_packets = subst (ArePackets splits.packets) (sym (splits.spelled ∙ append-nil splits.whole)) splits.are;
      },
    )

-- the words of packets have ten bits
ten_bits : (packets : List AncillaryPacket) (words : List ℕ) → ArePackets packets words → AllByRecursion (λ word. word < 1024) words
ten_bits [] words are = subst (AllByRecursion (λ word. word < 1024)) (sym are) tt
ten_bits (p ∷ packets) words (front, rest, spelled, is, are) =
    subst (AllByRecursion (λ word. word < 1024)) (sym spelled)
    (recursion_from_All (λ word. word < 1024) (front ++ rest)
    (All-append (λ word. word < 1024) front rest (IsPacket-ten_bits p front is)
    (All-from_recursion (λ word. word < 1024) rest (ten_bits packets rest are))))

-- what holds of all holds of those after
all_behind : (P : ℕ → Type 0) (front behind : List ℕ) → AllByRecursion P (front ++ behind) → AllByRecursion P behind
all_behind P [] behind all = all
all_behind P (word ∷ front) behind (_, all) = all_behind P front behind all

-- words that aren't refused begin a file
pub begins_file : (bytes words : List ℕ) → AreWords bytes words → AllTaken anc_syntax nothing_open bytes
    → (more : List ℕ) × ((packets : List AncillaryPacket) × IsWordsFile packets (bytes ++ more))
begins_file bytes words are taken =
    let same = AreWords-words bytes words are in
    let splits = sound words (subst (AllTaken word_syntax []) same (words_of-taken [] bytes taken)) in
    let behind = front_from words_after [] words in
    let rest = completes behind splits.begun in
    let small = All-from_recursion (λ word. word < 1024) rest.more (all_behind (λ word. word < 1024) behind rest.more (ten_bits rest.packets (behind ++ rest.more) rest.are)) in
    let packets = ArePackets-append splits.packets rest.packets splits.whole (behind ++ rest.more) splits.are rest.are in
    let spelled : splits.whole ++ (behind ++ rest.more) ≡ words ++ rest.more =
    sym (append_assoc splits.whole behind rest.more) ∙ ap (λ ws. ws ++ rest.more) (sym splits.spelled) in (
      flat_map word_bytes rest.more,
      (
        splits.packets ++ rest.packets,
        record {
          words = words ++ rest.more;
          spelled = AreWords-append bytes words (flat_map word_bytes rest.more) rest.more are (AreWords-flat_map rest.more small);
          are_packets = subst (ArePackets (splits.packets ++ rest.packets)) spelled packets;
        },
      ),
    )

-- words that are refused begin none
pub begins_no_file : (bytes : List ℕ) (byte : ℕ) (reason : Why) (more : List ℕ) (packets : List AncillaryPacket)
    → judge_byte (open_behind anc_syntax bytes) byte ≡ Refuse reason → IsWordsFile packets (bytes ++ byte ∷ more) → ⊥
begins_no_file bytes byte reason more packets refused is =
    let reads = file_is_read packets (bytes ++ byte ∷ more) is in
    let (_, (taken, _)) = AllTaken-split anc_syntax nothing_open bytes (byte ∷ more) reads.taken in
    subst IsTaken refused taken

-- a file is read and handed upward, where the layer above takes its parts
pub file_is_handed : (verdict : Verdict WordPart) (packets : List AncillaryPacket) (bytes : List ℕ) → IsWordsFile packets bytes
    → AreAccepted verdict [] (flat_map packet_parts packets)
    → read_under anc_syntax 2 verdict bytes ≡ record { parts = flat_map packet_parts packets; refusal = None }
file_is_handed verdict packets bytes is accepted =
    read_under-reads anc_syntax 2 verdict bytes (flat_map packet_parts packets) nothing_open (file_is_read packets bytes is) accepted
