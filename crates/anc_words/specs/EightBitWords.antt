-- Believed: the program's answer stands on these definitions.
-- 8-bit words (SMPTE ST 291-1): bits 7 to 0 carry a value, bit 8 is even parity of bits 7 to 0, and bit 9
-- is the inverse of bit 8.
use Rattle.std.specs.Prelude.{◌≡◌, ℕ, ◌+◌, ◌-◌, ◌%◌, ◌<◌, count_ones}
use Rattle.std.specs.Int.{bit_at}

-- bit 9 of the word is the inverse of bit 8
abbrev pub HasInverse : ℕ → Type 0
HasInverse word = bit_at word 9 ≡ 1 - bit_at word 8

-- bits 7 to 0 and bit 8 of the word have an even number of ones
abbrev pub HasEvenParity : ℕ → Type 0
HasEvenParity word = (count_ones (word % 256) + bit_at word 8) % 2 ≡ 0

-- the word is an 8-bit word that carries the value
pub record IsEightBit (value word : ℕ) : Type 0 where
  pub ten_bits : word < 1024
  pub low_bits : word % 256 ≡ value
  pub parity : HasEvenParity word
  pub inverse : HasInverse word
