-- Bytes are at most one list of words, and words have one list of bytes.
use Rattle.std.proofs.Common.{◌≡◌, ℕ, ◌+◌, ◌*◌, ◌%◌, ◌/◌, ◌<◌, List, [], ◌∷◌, ◌++◌, refl, arith, ap, sym}
use Rattle.std.proofs.lemmas.List.Elements.{All-head, All-tail}
use Rattle.std.specs.List.{All, flat_map}
use Rattle.anc_words.specs.Words.{IsWord, AreWords}
pub use Rattle.anc_words.specs.Words.{words_of}
use Rattle.anc_words.specs.Writing.{word_bytes}

-- the bytes of a word are it
pub word_bytes-is : (word : ℕ) → word < 1024 → IsWord (word / 256) (word % 256) word
word_bytes-is word below = record { zeros = omega arith; byte = omega arith; value = omega arith }

-- a word's bytes are those
pub IsWord-bytes : (high low word : ℕ) → IsWord high low word → (high ≡ word / 256) × (low ≡ word % 256)
IsWord-bytes high low word is = (omega arith, omega arith)

-- the bytes of words are they
pub AreWords-flat_map : (words : List ℕ) → All (λ word. word < 1024) words → AreWords (flat_map word_bytes words) words
AreWords-flat_map [] small = tt
AreWords-flat_map (word ∷ words) small = (
  word_bytes-is word (All-head (λ word. word < 1024) word words small),
  AreWords-flat_map words (All-tail (λ word. word < 1024) word words small),
)

-- words have no other bytes
pub AreWords-bytes : (bytes words : List ℕ) → AreWords bytes words → bytes ≡ flat_map word_bytes words
AreWords-bytes [] [] are = refl
AreWords-bytes [] (word ∷ words) are = absurd are
AreWords-bytes (high ∷ []) words are = absurd are
AreWords-bytes (high ∷ low ∷ bytes) [] are = absurd are
AreWords-bytes (high ∷ low ∷ bytes) (word ∷ words) (is, are) =
    let (is_high, is_low) = IsWord-bytes high low word is in
    let rest = AreWords-bytes bytes words are in
    cc

-- the words of the bytes and of what follows
pub words_of-append : (bytes words rest : List ℕ) → AreWords bytes words → words_of (bytes ++ rest) ≡ words ++ words_of rest
words_of-append [] [] rest are = refl
words_of-append [] (word ∷ words) rest are = absurd are
words_of-append (high ∷ []) words rest are = absurd are
words_of-append (high ∷ low ∷ bytes) [] rest are = absurd are
words_of-append (high ∷ low ∷ bytes) (word ∷ words) rest (is, are) =
    let value : 256 * high + low ≡ word = sym is.value in
    let more = words_of-append bytes words rest are in
    cc

-- bytes are no other words
pub AreWords-words : (bytes words : List ℕ) → AreWords bytes words → words_of bytes ≡ words
AreWords-words [] [] are = refl
AreWords-words [] (word ∷ words) are = absurd are
AreWords-words (high ∷ []) words are = absurd are
AreWords-words (high ∷ low ∷ bytes) [] are = absurd are
AreWords-words (high ∷ low ∷ bytes) (word ∷ words) (is, are) =
    let value : 256 * high + low ≡ word = sym is.value in
    let more = AreWords-words bytes words are in
    cc

-- bytes and more bytes
pub AreWords-append : (bytes words more others : List ℕ) → AreWords bytes words → AreWords more others → AreWords (bytes ++ more) (words ++ others)
AreWords-append [] [] more others are next = next
AreWords-append [] (word ∷ words) more others are next = absurd are
AreWords-append (high ∷ []) words more others are next = absurd are
AreWords-append (high ∷ low ∷ bytes) [] more others are next = absurd are
AreWords-append (high ∷ low ∷ bytes) (word ∷ words) more others (is, are) next = (is, AreWords-append bytes words more others are next)

-- bytes of words and more words
pub AreWords-split : (bytes words others : List ℕ) → AreWords bytes (words ++ others)
    → (front : List ℕ) × (back : List ℕ) × (bytes ≡ front ++ back) × AreWords front words × AreWords back others
AreWords-split bytes [] others are = ([], bytes, refl, tt, are)
AreWords-split [] (word ∷ words) others are = absurd are
AreWords-split (high ∷ []) (word ∷ words) others are = absurd are
AreWords-split (high ∷ low ∷ bytes) (word ∷ words) others (is, are) =
    let (front, back, spelled, first, second) = AreWords-split bytes words others are in
    (high ∷ low ∷ front, back, ap (λ bs. high ∷ low ∷ bs) spelled, (is, first), second)
