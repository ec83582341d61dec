-- Between crates: the program's answer stands on none of these definitions.
-- The control pairs that a receiver of captions passes over (CTA-608-E and 47 CFR 79.101).
use Rattle.std.specs.Prelude.{ℕ, ◌-◌, ◌==◌, ◌&&◌, nat_lt, nat_le, Bool, if◌then◌else◌, List, [], ◌∷◌}
use Rattle.std.specs.List.{list_any}

-- a first byte of data channel 1, and the first and the last of the second bytes
abbrev pub skipped_pairs : List (ℕ × ℕ × ℕ)
skipped_pairs =
    -- background colours
    (0x10, 0x20, 0x2F)
    -- not assigned
    ∷ (0x10, 0x30, 0x3F) ∷ (0x10, 0x60, 0x7F)
    -- alarm off and alarm on
    ∷ (0x14, 0x22, 0x23) ∷ (0x15, 0x22, 0x23)
    -- not assigned
    ∷ (0x14, 0x30, 0x3F) ∷ (0x15, 0x30, 0x3F) ∷ (0x16, 0x20, 0x3F)
    -- not assigned; other character groups, background and black characters
    ∷ (0x17, 0x20, 0x20) ∷ (0x17, 0x24, 0x3F) ∷ []

-- the first byte of data channel 1 that means the same
abbrev pub in_channel_1 : ℕ → ℕ
in_channel_1 first = if nat_lt first 0x18 then first else first - 8

-- the two bytes stand in a row of the list
abbrev pub is_listed : ℕ → ℕ → Bool
is_listed first second =
    list_any (λ row. row.0 == in_channel_1 first && nat_le row.1 second && nat_le second row.2) skipped_pairs
