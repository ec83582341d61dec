-- A byte of windows names just the windows whose bits are set.
use Rattle.std.proofs.Common.{◌≡◌, ℕ, zero, suc, ◌*◌, ◌<◌, ◌≤◌, ◌==◌, ◌/◌, ◌%◌, Bool, true, false, refl, ap, ◌∙◌, arith}
use Rattle.dtvcc_codes.specs.Writing.{bit}
use Rattle.dtvcc_author.specs.FrameEvents.{windows_byte}
use Rattle.dtvcc_screen.specs.Commands.{is_named}

-- a bit has its value or none
bit_times : (b : Bool) (value : ℕ) → bit b value ≡ value * bit b 1
bit_times true value = omega arith
bit_times false value = omega arith

bit_least : (b : Bool) → bit b 1 ≤ 1
bit_least true = omega arith
bit_least false = omega arith

bit_tells : (b : Bool) → (bit b 1 == 1) ≡ b
bit_tells true = refl
bit_tells false = refl

-- the bits of a byte, each as 0 or 1
record Bits (named : ℕ → Bool) : Type 0 where
  two : bit (named 1) 2 ≡ 2 * bit (named 1) 1
  four : bit (named 2) 4 ≡ 4 * bit (named 2) 1
  eight : bit (named 3) 8 ≡ 8 * bit (named 3) 1
  sixteen : bit (named 4) 16 ≡ 16 * bit (named 4) 1
  thirty_two : bit (named 5) 32 ≡ 32 * bit (named 5) 1
  sixty_four : bit (named 6) 64 ≡ 64 * bit (named 6) 1
  last : bit (named 7) 128 ≡ 128 * bit (named 7) 1
  least0 : bit (named 0) 1 ≤ 1
  least1 : bit (named 1) 1 ≤ 1
  least2 : bit (named 2) 1 ≤ 1
  least3 : bit (named 3) 1 ≤ 1
  least4 : bit (named 4) 1 ≤ 1
  least5 : bit (named 5) 1 ≤ 1
  least6 : bit (named 6) 1 ≤ 1
  least7 : bit (named 7) 1 ≤ 1

bits_of : (named : ℕ → Bool) → Bits named
bits_of named = record {
  two = bit_times (named 1) 2;
  four = bit_times (named 2) 4;
  eight = bit_times (named 3) 8;
  sixteen = bit_times (named 4) 16;
  thirty_two = bit_times (named 5) 32;
  sixty_four = bit_times (named 6) 64;
  last = bit_times (named 7) 128;
  least0 = bit_least (named 0);
  least1 = bit_least (named 1);
  least2 = bit_least (named 2);
  least3 = bit_least (named 3);
  least4 = bit_least (named 4);
  least5 = bit_least (named 5);
  least6 = bit_least (named 6);
  least7 = bit_least (named 7);
}

-- a test of a digit
told : (digit : ℕ) (b : Bool) → digit ≡ bit b 1 → (digit == 1) ≡ b
told digit b is = ap (λ (n : ℕ). n == 1) is ∙ bit_tells b

pub named_is : (named : ℕ → Bool) (id : ℕ) → id < 8 → is_named (windows_byte named) id ≡ named id
named_is named zero small =
    let bits = bits_of named in told (windows_byte named / 1 % 2) (named 0) (omega arith)
named_is named (suc zero) small =
    let bits = bits_of named in told (windows_byte named / 2 % 2) (named 1) (omega arith)
named_is named (suc (suc zero)) small =
    let bits = bits_of named in told (windows_byte named / 4 % 2) (named 2) (omega arith)
named_is named (suc (suc (suc zero))) small =
    let bits = bits_of named in told (windows_byte named / 8 % 2) (named 3) (omega arith)
named_is named (suc (suc (suc (suc zero)))) small =
    let bits = bits_of named in told (windows_byte named / 16 % 2) (named 4) (omega arith)
named_is named (suc (suc (suc (suc (suc zero))))) small =
    let bits = bits_of named in told (windows_byte named / 32 % 2) (named 5) (omega arith)
named_is named (suc (suc (suc (suc (suc (suc zero)))))) small =
    let bits = bits_of named in told (windows_byte named / 64 % 2) (named 6) (omega arith)
named_is named (suc (suc (suc (suc (suc (suc (suc zero))))))) small =
    let bits = bits_of named in told (windows_byte named / 128 % 2) (named 7) (omega arith)
named_is named (suc (suc (suc (suc (suc (suc (suc (suc n)))))))) small = absurd (omega arith)
