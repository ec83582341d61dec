-- Bytes as whole words: the words of unrefused bytes, and bytes that a file begins with.
use Rattle.std.proofs.Common.{◌≡◌, ℕ, ◌+◌, ◌*◌, ◌<◌, ◌≤◌, List, [], ◌∷◌, ◌++◌, length, refl, sym, subst, arith}
use Rattle.std.proofs.lemmas.List.Elements.{All-append, All-cons, All-head, All-nil, All-tail}
use Rattle.std.specs.List.{All}
use Rattle.cc_base.specs.declared.why.Why.TheVariants as why
use Rattle.cc_base.specs.Syntax.{AllRead, AllTaken}
use Rattle.anc_words.specs.Packets.{AncillaryPacket}
use Rattle.anc_words.specs.Reading.{anc_syntax, judge_ten_bits, word_syntax, words_after}
use Rattle.anc_words.specs.Words.{AreWords}
use Rattle.anc_words.specs.WordsFiles.{ArePackets}
use Rattle.anc_words.proofs.ByteLemmas.{IsByte, words_of-taken}
use Rattle.anc_words.proofs.PacketLemmas.{IsPacket-ten_bits}
use Rattle.anc_words.proofs.SoundLemmas.{IsTaken-if, test-below}
use Rattle.anc_words.proofs.WordLemmas.{words_of}
use Rattle.words_files.specs.Offences.{AreWholeWords}

-- what holds of all holds of the first, and of those after
pub All-split : (P : ℕ → Type 0) (front behind : List ℕ) → All P (front ++ behind) → All P front × All P behind
All-split P [] behind all = (All-nil P, all)
All-split P (item ∷ front) behind all =
    let (some, rest) = All-split P front behind (All-tail P item (front ++ behind) all) in
    (All-cons P item front (All-head P item (front ++ behind) all) some, rest)

-- unrefused bytes that are whole words spell these words
spelled-from : (front bytes : List ℕ) → All IsByte bytes → AllTaken word_syntax front (words_of bytes) → AreWholeWords bytes → AreWords bytes (words_of bytes)
spelled-from front [] are taken whole = tt
spelled-from front (high ∷ []) are taken whole = absurd (omega (arith, whole))
spelled-from front (high ∷ low ∷ bytes) are (is, taken) whole =
    let (test, _) = IsTaken-if _ (judge_ten_bits front (256 * high + low)) why.HighBits is in
    let below = test-below (256 * high + low) 0x400 test in
    let byte = All-head IsByte low bytes (All-tail IsByte high (low ∷ bytes) are) in
    let rest = All-tail IsByte low bytes (All-tail IsByte high (low ∷ bytes) are) in
    (record { zeros = omega arith; byte = byte; value = refl }, spelled-from (words_after front (256 * high + low)) bytes rest taken (omega (arith, whole)))

pub are_spelled : (bytes : List ℕ) → All IsByte bytes → AllRead anc_syntax bytes → AreWholeWords bytes → AreWords bytes (words_of bytes)
are_spelled bytes are read whole = spelled-from [] bytes are (words_of-taken [] bytes read) whole

-- words have two bytes each
pub AreWords-whole : (bytes words : List ℕ) → AreWords bytes words → AreWholeWords bytes
AreWords-whole [] [] are = refl
AreWords-whole [] (word ∷ words) are = absurd are
AreWords-whole (high ∷ []) words are = absurd are
AreWords-whole (high ∷ low ∷ bytes) [] are = absurd are
AreWords-whole (high ∷ low ∷ bytes) (word ∷ words) (_, are) = let rest = AreWords-whole bytes words are in omega arith

-- the words of packets have ten bits
pub packets-ten_bits : (packets : List AncillaryPacket) (words : List ℕ) → ArePackets packets words → All (λ word. word < 1024) words
packets-ten_bits [] words are = subst (All (λ word. word < 1024)) (sym are) (All-nil (λ word. word < 1024))
packets-ten_bits (p ∷ packets) words (front, rest, spelled, is, are) =
    subst (All (λ word. word < 1024)) (sym spelled)
    (All-append (λ word. word < 1024) front rest (IsPacket-ten_bits p front is) (packets-ten_bits packets rest are))

-- a list at the front of another one that is no shorter
pub front_of : (xs ys front rest : List ℕ) → xs ++ front ≡ ys ++ rest → length xs ≤ length ys → (more : List ℕ) × (ys ≡ xs ++ more)
front_of [] ys front rest is few = (ys, refl)
front_of (x ∷ xs) [] front rest is few = absurd (omega (arith, few))
front_of (x ∷ xs) (y ∷ ys) front rest is few =
    let (more, same) = front_of xs ys front rest (cc) (omega (arith, few)) in
    (more, cc)
