-- Words have one checksum word.
use Rattle.std.proofs.Common.{◌≡◌, ℕ, ◌%◌, ◌<◌, List, [], ◌∷◌, refl, arith, ap, sym, ◌∙◌}
use Rattle.std.proofs.lemmas.Bool.Decides.{nat_tests}
use Rattle.std.proofs.lemmas.List.Sums.{sum_by-cons}
use Rattle.std.specs.List.{sum_by, sum}
use Rattle.anc_words.specs.EightBitWords.{HasInverse}
use Rattle.anc_words.specs.Checksums.{IsChecksum, nine_bits}
use Rattle.anc_words.specs.Writing.{nine_bit_word, checksum_word}

-- the sum of whole words is the sum of their low nine bits, modulo 512
sum_by-nine_bits : (words : List ℕ) → sum_by nine_bits words % 512 ≡ sum words % 512
sum_by-nine_bits [] = refl
sum_by-nine_bits (word ∷ words) =
    let more = sum_by-nine_bits words in
    rw (sum_by-cons nine_bits word words, sum_by-cons (λ x. x) word words) (omega (arith, more))

-- the word of nine bits
nine_bit_word-fits : (low : ℕ) → low < 512 → nine_bit_word low < 1024
nine_bit_word-fits low below = grind (arith, nat_tests)

nine_bit_word-low : (low : ℕ) → low < 512 → nine_bit_word low % 512 ≡ low
nine_bit_word-low low below = grind (arith, nat_tests)

nine_bit_word-inverse : (low : ℕ) → low < 512 → HasInverse (nine_bit_word low)
nine_bit_word-inverse low below = grind (arith, nat_tests)

-- a word is made of its low nine bits where bit 9 is the inverse of bit 8
nine_bit_word-of : (word : ℕ) → word < 1024 → HasInverse word → word ≡ nine_bit_word (word % 512)
nine_bit_word-of word below inverse = grind (arith, nat_tests)

-- the checksum word of words is their checksum word
pub checksum_word-is : (words : List ℕ) → IsChecksum words (checksum_word words)
checksum_word-is words =
    let low = sum words % 512 in
    let below : low < 512 = omega arith in record {
      ten_bits = nine_bit_word-fits low below;
      sum = nine_bit_word-low low below ∙ sym (sum_by-nine_bits words);
      inverse = nine_bit_word-inverse low below;
    }

-- words have no other checksum word
pub IsChecksum-word : (words : List ℕ) (word : ℕ) → IsChecksum words word → word ≡ checksum_word words
IsChecksum-word words word is =
    nine_bit_word-of word is.ten_bits is.inverse ∙ ap nine_bit_word (is.sum ∙ sum_by-nine_bits words)
