-- A byte with parity is odd, is a byte, and has its low bits.
use Rattle.std.proofs.Common.{◌≡◌, ℕ, ◌<◌, ◌==◌, ◌+◌, ◌||◌, Bool, true, false, nat_lt, refl, arith}
use Rattle.std.proofs.lemmas.Bool.Decides.{nat_tests, Decides-eqb}
use Rattle.std.specs.Int.Count.{ones}
use Rattle.line21_codes.specs.Parity.{is_odd, with_parity, low_bits}
use Rattle.line21_codes.proofs.Tables.{all_below, at_each}

-- the parity of each seven bits is odd
unfoldable becomes_odd : ℕ → Bool
becomes_odd low = is_odd (with_parity low)

-- the whole table
odd_test : all_below becomes_odd 128 ≡ true
unfolding all_below becomes_odd ones
odd_test = refl

-- a byte with parity is odd
pub with_parity-odd : (low : ℕ) → low < 128 → is_odd (with_parity low) ≡ true
unfolding becomes_odd
with_parity-odd low below = at_each becomes_odd 128 odd_test low below

-- each byte with parity has its seven bits
unfoldable keeps_bits : ℕ → Bool
keeps_bits low = low_bits (with_parity low) == low

-- the whole table
bits_test : all_below keeps_bits 128 ≡ true
unfolding all_below keeps_bits ones
bits_test = refl

-- a byte with parity has its low bits
pub with_parity-bits : (low : ℕ) → low < 128 → low_bits (with_parity low) ≡ low
unfolding keeps_bits
with_parity-bits low below = (Decides-eqb (low_bits (with_parity low)) low).0 (at_each keeps_bits 128 bits_test low below)

-- each byte with parity is a byte
unfoldable fits_byte : ℕ → Bool
fits_byte low = nat_lt (with_parity low) 256

-- the whole table
byte_test : all_below fits_byte 128 ≡ true
unfolding all_below fits_byte ones
byte_test = refl

-- a byte with parity is a byte
pub with_parity-byte : (low : ℕ) → low < 128 → with_parity low < 256
unfolding fits_byte
with_parity-byte low below = grind (arith, nat_tests, at_each fits_byte 128 byte_test low below)

-- where one of two fails the other holds
one_holds : (b c : Bool) → (b || c) ≡ true → b ≡ false → c ≡ true
one_holds true c either fails = cc
one_holds false c either fails = either

-- the eighth bit makes an even byte odd
unfoldable turns_odd : ℕ → Bool
turns_odd low = is_odd low || is_odd (low + 128)

-- the whole table
turns_test : all_below turns_odd 128 ≡ true
unfolding all_below turns_odd ones
turns_test = refl

-- the eighth bit makes an even byte odd
pub is_odd-top : (low : ℕ) → low < 128 → is_odd low ≡ false → is_odd (low + 128) ≡ true
unfolding turns_odd
is_odd-top low below even = one_holds (is_odd low) (is_odd (low + 128)) (at_each turns_odd 128 turns_test low below) even
