-- Believed: the program's answer stands on these definitions.
-- The parity of line 21 bytes: the eighth bit makes the number of ones odd
-- (CTA-608-E and 47 CFR 79.101).
use Rattle.std.specs.Prelude.{ℕ, ◌+◌, ◌%◌, ◌==◌, ◌&&◌, Bool, if◌then◌else◌, count_ones}
use Rattle.line21_codes.specs.declared.pairs.Pair.{Pair}

-- the byte has an odd number of ones
abbrev pub is_odd : ℕ → Bool
is_odd byte = count_ones byte % 2 == 1

-- the byte with these low seven bits and odd parity
abbrev pub with_parity : ℕ → ℕ
with_parity low = if is_odd low then low else low + 128

-- the byte's low seven bits
abbrev pub low_bits : ℕ → ℕ
low_bits byte = byte % 128

-- both bytes of the pair have odd parity
abbrev pub has_odd_parity : Pair → Bool
has_odd_parity pair = is_odd pair.a && is_odd pair.b
