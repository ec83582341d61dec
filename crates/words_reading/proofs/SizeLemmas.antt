-- A packet's size by its count.
use Rattle.std.proofs.Common.{◌≡◌, ℕ, ◌+◌, ◌*◌, ◌%◌, ◌<◌, List, [], ◌∷◌, ◌++◌, length, get_or, refl, ap, ◌∙◌, length-append, arith}
use Rattle.std.specs.List.{flat_map}
use Rattle.anc_words.specs.Packets.{AncillaryPacket, IsPacket}
use Rattle.anc_words.specs.Words.{AreWords}
use Rattle.anc_words.specs.WordsFiles.{IsPacketBytes}
use Rattle.anc_words.specs.Writing.{word_bytes}
use Rattle.anc_words.proofs.WordLemmas.{AreWords-bytes}

-- a word is two bytes
words_long : (words : List ℕ) → length (flat_map word_bytes words) ≡ 2 * length words
words_long [] = refl
words_long (word ∷ words) = omega (arith, words_long words)

-- the bytes of seven words and of the user words, as many as the count says
pub record HasSize (bytes : List ℕ) : Type 0 where
  pub past : 11 < length bytes
  pub size : length bytes ≡ 14 + 2 * get_or bytes 11 0

sized : (packet : AncillaryPacket) (bytes words : List ℕ) → AreWords bytes words → IsPacket packet words → HasSize bytes
sized packet bytes words are is =
    let user = packet.user ++ is.checksum ∷ [] in
    let all : bytes ≡ flat_map word_bytes (0x000 ∷ 0x3FF ∷ 0x3FF ∷ is.did ∷ is.sdid ∷ is.count ∷ user) = AreWords-bytes bytes words are ∙ ap (flat_map word_bytes) is.spelled in
    let long : length bytes ≡ 12 + 2 * length user = ap length all ∙ words_long (0x000 ∷ 0x3FF ∷ 0x3FF ∷ is.did ∷ is.sdid ∷ is.count ∷ user) ∙ omega arith in
    let count : get_or bytes 11 0 ≡ is.count % 256 = ap (λ b. get_or b 11 0) all in
    let low = is.has_count.low_bits in
    record {
      past = omega (arith, long);
      size = omega (arith, long, count, low, length-append packet.user (is.checksum ∷ []));
    }

pub packet_size : (packet : AncillaryPacket) (bytes : List ℕ) → IsPacketBytes packet bytes → HasSize bytes
packet_size packet bytes is = sized packet bytes is.words is.spelled is.is_packet
