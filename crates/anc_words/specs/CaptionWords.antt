-- Between crates: the program's answer stands on none of these definitions.
-- The words of a packet of captions, as they stand at the front of bytes, and whether they are right.
use Rattle.std.specs.Prelude.{◌≡◌, ℕ, ◌+◌, ◌*◌, ◌%◌, List, ◌∷◌, ◌++◌, length, get_or, true}
use Rattle.std.specs.List.{list_all}
use Rattle.anc_words.specs.Reading.{is_eight_bit}
use Rattle.anc_words.specs.Words.{words_of}
use Rattle.anc_words.specs.Writing.{checksum_word}

-- the word of two bytes, the high one first
abbrev pub word_of : List ℕ → ℕ
word_of pair = 256 * get_or pair 0 0 + get_or pair 1 0

-- its low byte
abbrev pub low_of : List ℕ → ℕ
low_of pair = get_or pair 1 0

-- the bytes begin with the flag, the identifiers of captions, this count, these user words, as many as it says, and this
-- checksum word
pub record BeginsWithCaptions (bytes : List ℕ) (count : ℕ) (user : List ℕ) (checksum : ℕ) : Type 0 where
  pub rest : List ℕ
  pub spelled : words_of bytes ≡ 0x000 ∷ 0x3FF ∷ 0x3FF ∷ 0x161 ∷ 0x101 ∷ count ∷ (user ++ checksum ∷ rest)
  pub many : length user ≡ count % 256

-- they are 8-bit words, and the checksum word is the one of the words from DID on
pub record AreRight (count : ℕ) (user : List ℕ) (checksum : ℕ) : Type 0 where
  pub count_is : is_eight_bit count ≡ true
  pub user_are : list_all is_eight_bit user ≡ true
  pub checksum_is : checksum ≡ checksum_word (0x161 ∷ 0x101 ∷ count ∷ user)
