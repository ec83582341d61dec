-- The low bytes of the words of a payload's packet.
use Rattle.std.proofs.Common.{◌≡◌, ℕ, suc, ◌+◌, ◌-◌, ◌*◌, ◌/◌, ◌%◌, ◌≤◌, ◌<◌, List, [], ◌∷◌, ◌++◌, length, length-append, map, take, drop, refl, ap, ◌∙◌, arith}
use Rattle.std.specs.List.{flat_map}
use Rattle.std.specs.Simd.{first_chunks}
use Rattle.std.proofs.lemmas.List.{map-append}
use Rattle.anc_words.proofs.EightBitLemmas.{eight_bit_word-is}
use Rattle.anc_words.specs.CaptionWords.{low_of}
use Rattle.anc_words.specs.Writing.{checksum_word, eight_bit_word, summed_words, word_bytes}
use Rattle.mcc_files.specs.Payloads.{Payload, payload_bytes}
use Rattle.mcc_files.specs.PayloadWords.{IsPayloadOf}
use Rattle.mcc_files.proofs.WordLemmas.{user_of_bytes}
use Rattle.mcc_files.proofs.WriteLemmas.{all_left}
use Rattle.mcc_files.proofs.WrittenLemmas.{AreBytes, tail_bytes}

-- the bytes of words, two and two
pub two_each : (words : List ℕ) → length (flat_map word_bytes words) ≡ 2 * length words
two_each [] = refl
two_each (word ∷ words) = omega (arith, two_each words)

pub chunks_of : (words : List ℕ) → first_chunks 2 (length words) (flat_map word_bytes words) ≡ map word_bytes words
chunks_of [] = refl
chunks_of (word ∷ words) = ap (λ (l : List (List ℕ)). word_bytes word ∷ l) (chunks_of words)

pub words_again : (words : List ℕ) → first_chunks 2 (length (flat_map word_bytes words) / 2) (flat_map word_bytes words) ≡ map word_bytes words
words_again words =
    let half : length (flat_map word_bytes words) / 2 ≡ length words = omega (arith, two_each words) in
    ap (λ n. first_chunks 2 n (flat_map word_bytes words)) half ∙ chunks_of words

-- their low bytes
pub low_words : (words : List ℕ) → map low_of (map word_bytes words) ≡ map (λ word. word % 256) words
low_words [] = refl
low_words (word ∷ words) = ap (λ (l : List ℕ). (word % 256) ∷ l) (low_words words)

pub low_eights : (bytes : List ℕ) → AreBytes bytes → map (λ word. word % 256) (map eight_bit_word bytes) ≡ bytes
low_eights [] are = refl
low_eights (byte ∷ bytes) are =
    let one : eight_bit_word byte % 256 ≡ byte = (eight_bit_word-is byte (are 0 byte (omega arith))).low_bits in
    let more = low_eights bytes (tail_bytes byte bytes are) in
    cc

-- the low bytes of a payload's packet, from DID on
pub low_payload : (payload : Payload) (packet : List ℕ) → IsPayloadOf payload packet
    → map low_of (first_chunks 2 (length (drop 6 packet) / 2) (drop 6 packet)) ≡ payload_bytes payload
low_payload payload packet is =
    let user = user_of_bytes payload is.bytes in
    let summed = summed_words payload.did payload.sdid payload.user in
    let sum = checksum_word summed in
    let words = summed ++ sum ∷ [] in
    let behind : drop 6 packet ≡ flat_map word_bytes words = ap (drop 6) is.words in
    let did : eight_bit_word payload.did % 256 ≡ payload.did = (eight_bit_word-is payload.did (is.bytes 0 payload.did (omega arith))).low_bits in
    let sdid : eight_bit_word payload.sdid % 256 ≡ payload.sdid = (eight_bit_word-is payload.sdid (is.bytes 1 payload.did (omega arith))).low_bits in
    let count : eight_bit_word (length payload.user) % 256 ≡ length payload.user = (eight_bit_word-is (length payload.user) (is.bytes 2 payload.did (omega arith))).low_bits in
    let users = low_eights payload.user user in
    let tail : map (λ word. word % 256) (map eight_bit_word payload.user ++ sum ∷ []) ≡ payload.user ++ (sum % 256) ∷ [] =
    map-append (λ word. word % 256) (map eight_bit_word payload.user) (sum ∷ []) ∙ ap (λ (l : List ℕ). l ++ (sum % 256) ∷ []) users in
    ap (λ (l : List ℕ). map low_of (first_chunks 2 (length l / 2) l)) behind ∙ ap (map low_of) (words_again words) ∙ low_words words
    ∙ ap (λ (n : ℕ). n ∷ (eight_bit_word payload.sdid % 256) ∷ (eight_bit_word (length payload.user) % 256) ∷ map (λ word. word % 256) (map eight_bit_word payload.user ++ sum ∷ [])) did
    ∙ ap (λ (n : ℕ). payload.did ∷ n ∷ (eight_bit_word (length payload.user) % 256) ∷ map (λ word. word % 256) (map eight_bit_word payload.user ++ sum ∷ [])) sdid
    ∙ ap (λ (n : ℕ). payload.did ∷ payload.sdid ∷ n ∷ map (λ word. word % 256) (map eight_bit_word payload.user ++ sum ∷ [])) count
    ∙ ap (λ (l : List ℕ). payload.did ∷ payload.sdid ∷ length payload.user ∷ l) tail

pub chunks_low : (payload : Payload) (packet : List ℕ) (words : List (List ℕ)) → IsPayloadOf payload packet
    → words ≡ first_chunks 2 (length (take (length packet - 6) (drop 6 packet)) / 2) (take (length packet - 6) (drop 6 packet)) → map low_of words ≡ payload_bytes payload
chunks_low payload packet words is chunks =
    ap (map low_of) (chunks ∙ ap (λ (l : List ℕ). first_chunks 2 (length l / 2) l) (all_left 6 packet)) ∙ low_payload payload packet is

-- those in front of other bytes
pub taken_low : (words : List (List ℕ)) (rest : List ℕ) → take (length words) (map low_of words ++ rest) ≡ map low_of words
taken_low [] rest = refl
taken_low (word ∷ words) rest = ap (λ (l : List ℕ). low_of word ∷ l) (taken_low words rest)

-- how long it is
pub payload_long : (payload : Payload) (packet : List ℕ) → IsPayloadOf payload packet → (length packet ≡ 2 * length payload.user + 14) × (length payload.user ≤ 255)
payload_long payload packet is =
    let summed = summed_words payload.did payload.sdid payload.user in
    let words = 0x000 ∷ 0x3FF ∷ 0x3FF ∷ (summed ++ checksum_word summed ∷ []) in
    let many = length-append (map eight_bit_word payload.user) (checksum_word summed ∷ []) in
    let mapped : length (map eight_bit_word payload.user) ≡ length payload.user = mapped_many payload.user in
    let count : length payload.user < 256 = is.bytes 2 payload.did (omega arith) in
    let all = two_each words in
    (ap length is.words ∙ omega (arith, all, many, mapped), omega (arith, count))
  where
    mapped_many : (bytes : List ℕ) → length (map eight_bit_word bytes) ≡ length bytes
    mapped_many [] = refl
    mapped_many (byte ∷ bytes) = ap suc (mapped_many bytes)
