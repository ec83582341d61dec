-- Each byte has one 8-bit word.
use Rattle.std.proofs.Common.{◌≡◌, ℕ, ◌+◌, ◌%◌, ◌<◌, ◌⊎◌, inl, inr, count_ones, refl, arith, sym, subst, ◌∙◌}
use Rattle.std.proofs.lemmas.Bool.{cases_eq}
use Rattle.std.specs.Int.{bit_at}
use Rattle.anc_words.specs.EightBitWords.{IsEightBit}
use Rattle.anc_words.specs.Writing.{eight_bit_word}

-- an odd byte with bit 8
odd_word : (byte : ℕ) → byte < 256 → count_ones byte % 2 ≡ 1 → IsEightBit byte (byte + 0x100)
odd_word byte below odd =
    let low : (byte + 0x100) % 256 ≡ byte = omega arith in record {
      ten_bits = omega arith;
      low_bits = low;
      parity = rw low (omega arith);
      inverse = omega arith;
    }

-- an even byte with bit 9
even_word : (byte : ℕ) → byte < 256 → count_ones byte % 2 ≡ 0 → IsEightBit byte (byte + 0x200)
even_word byte below even =
    let low : (byte + 0x200) % 256 ≡ byte = omega arith in record {
      ten_bits = omega arith;
      low_bits = low;
      parity = rw low (omega arith);
      inverse = omega arith;
    }

-- the word of an odd byte
eight_bit_word-odd : (byte : ℕ) → count_ones byte % 2 ≡ 1 → eight_bit_word byte ≡ byte + 0x100
eight_bit_word-odd byte odd = rw odd refl

-- the word of an even byte
eight_bit_word-even : (byte : ℕ) → count_ones byte % 2 ≡ 0 → eight_bit_word byte ≡ byte + 0x200
eight_bit_word-even byte even = rw even refl

-- a number is odd or even
odd_or_even : (n : ℕ) → (n % 2 ≡ 1) ⊎ (n % 2 ≡ 0)
odd_or_even n = elim (cases_eq (n % 2) 1) [ inl odd ↦ inl odd | inr other ↦ inr (omega arith) ]

-- a byte's word is its 8-bit word
pub eight_bit_word-is : (byte : ℕ) → byte < 256 → IsEightBit byte (eight_bit_word byte)
eight_bit_word-is byte below = elim (odd_or_even (count_ones byte)) [
  | inl odd ↦ subst (IsEightBit byte) (sym (eight_bit_word-odd byte odd)) (odd_word byte below odd)
  | inr even ↦ subst (IsEightBit byte) (sym (eight_bit_word-even byte even)) (even_word byte below even)
]

-- a byte has no other 8-bit word
pub IsEightBit-word : (byte word : ℕ) → IsEightBit byte word → word ≡ eight_bit_word byte
IsEightBit-word byte word is =
    let below = is.ten_bits in
    let low = is.low_bits in
    let parity : (count_ones byte + bit_at word 8) % 2 ≡ 0 = rw low at is.parity in
    let inverse = is.inverse in
    elim (odd_or_even (count_ones byte)) [
      | inl odd ↦ let value : word ≡ byte + 0x100 = omega arith in value ∙ sym (eight_bit_word-odd byte odd)
      | inr even ↦ let value : word ≡ byte + 0x200 = omega arith in value ∙ sym (eight_bit_word-even byte even)
    ]
