-- Believed: the program's answer stands on these definitions.
-- The numbers that fields have.
use Rattle.std.specs.Prelude.{ℕ, ◌+◌, ◌-◌, ◌*◌, ◌==◌, Bool, not, ◌&&◌, ◌||◌, nat_le, if◌then◌else◌, List, [], ◌∷◌, length, slice_index, Option, Some, None, option_and_then}
use Rattle.std.specs.List.{list_all}
use Rattle.std.specs.Char.{is_ascii_digit}
use Rattle.cue_form.specs.Records.{Field}

-- the number that decimal digits write after the digits of n
abbrev pub value_after : ℕ → List ℕ → ℕ
value_after n [] = n
value_after n (digit ∷ digits) = value_after (n * 10 + (digit - 48)) digits

-- 1 to 10 bytes, of which a first 0 stands alone
abbrev pub has_number_length : Field → Bool
has_number_length text = nat_le 1 (length text) && nat_le (length text) 10 && (length text == 1 || not (slice_index text 0 == 48))

-- a number: 1 to 10 decimal digits without a sign and without a leading zero, except 0 itself
abbrev pub number_field : Field → Option ℕ
number_field text = if has_number_length text && list_all is_ascii_digit text then Some (value_after 0 text) else None

-- a number from low to high
abbrev pub number_within : ℕ → ℕ → Field → Option ℕ
number_within low high text = option_and_then (λ n. if nat_le low n && nat_le n high then Some n else None) (number_field text)
