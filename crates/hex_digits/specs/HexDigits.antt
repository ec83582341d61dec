-- Believed: the program's answer stands on these definitions.
-- Hex digits: the value of one of either case, and the one that is written of a value.
use Rattle.std.specs.Prelude.{ℕ, ◌+◌, ◌-◌, ◌&&◌, if◌then◌else◌, nat_le, nat_lt, Option, Some, None}

-- the value of a hex digit of either case
abbrev pub hex_value : ℕ → Option ℕ
hex_value byte =
    if nat_le 48 byte && nat_le byte 57 then Some (byte - 48)
    else if nat_le 65 byte && nat_le byte 70 then Some (byte - 65 + 10)
    else if nat_le 97 byte && nat_le byte 102 then Some (byte - 97 + 10)
    else None

-- the upper-case hex digit of a value below 16
abbrev pub upper_hex_digit : ℕ → ℕ
upper_hex_digit value = if nat_lt value 10 then 48 + value else 55 + value

-- the lower-case one
abbrev pub lower_hex_digit : ℕ → ℕ
lower_hex_digit value = if nat_lt value 10 then 48 + value else 87 + value
