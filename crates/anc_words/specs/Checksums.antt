-- Believed: the program's answer stands on these definitions.
-- The checksum word (SMPTE ST 291-1): its low nine bits are the sum, modulo 512, of the low nine bits of the
-- words from DID to the last user word, and bit 9 is the inverse of bit 8.
use Rattle.std.specs.Prelude.{◌≡◌, ℕ, ◌%◌, ◌<◌, List}
use Rattle.std.specs.List.{sum_by}
use Rattle.anc_words.specs.EightBitWords.{HasInverse}

-- the word's low nine bits
abbrev pub nine_bits : ℕ → ℕ
nine_bits word = word % 512

-- the word is the checksum word of these words
pub record IsChecksum (words : List ℕ) (word : ℕ) : Type 0 where
  pub ten_bits : word < 1024
  pub sum : nine_bits word ≡ sum_by nine_bits words % 512
  pub inverse : HasInverse word
