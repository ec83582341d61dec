-- The bytes of the rows leave room for a data channel and for the low five bits.
use Rattle.std.proofs.Common.{◌≡◌, ℕ, ◌<◌, ◌≤◌, Bool, true, nat_lt, nat_le, slice_index_or, refl, arith}
use Rattle.std.proofs.lemmas.Bool.Decides.{nat_tests}
use Rattle.line21_codes.specs.Writing.{row_bytes}
use Rattle.line21_codes.proofs.Tables.{all_below, at_each}

-- the first byte at a place of the row table is of data channel 1
unfoldable is_first : ℕ → Bool
is_first place = nat_lt (slice_index_or row_bytes place (0, 0)).0 0x18

-- the whole table
first_test : all_below is_first 15 ≡ true
unfolding all_below is_first
first_test = refl

-- the first byte of a row is of data channel 1
pub row_bytes-first : (place : ℕ) → place < 15 → (slice_index_or row_bytes place (0, 0)).0 < 0x18
unfolding is_first
row_bytes-first place below = grind (arith, nat_tests, at_each is_first 15 first_test place below)

-- the lowest second byte at a place of the row table leaves room for five bits
unfoldable is_second : ℕ → Bool
is_second place = nat_le (slice_index_or row_bytes place (0, 0)).1 0x60

-- the whole table
second_test : all_below is_second 15 ≡ true
unfolding all_below is_second
second_test = refl

-- the lowest second byte of a row leaves room for five bits
pub row_bytes-second : (place : ℕ) → place < 15 → (slice_index_or row_bytes place (0, 0)).1 ≤ 0x60
unfolding is_second
row_bytes-second place below = grind (arith, nat_tests, at_each is_second 15 second_test place below)
