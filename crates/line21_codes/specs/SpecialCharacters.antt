-- Believed: the program's answer stands on these definitions.
-- The special characters: first byte 11, second bytes 30 to 3F
-- (CTA-608-E and 47 CFR 79.101, special characters).
use Rattle.std.specs.Prelude.{ℕ, ◌-◌, ◌==◌, nat_le, Bool, false, if◌then◌else◌, List, [], ◌∷◌, Option, Some, None, slice_index_or}

-- the characters of the second bytes 30 to 3F; the transparent space, 39, is no character
abbrev pub special_characters : List (Option ℕ)
special_characters =
    -- 30: ®  °  ½  ¿  ™  ¢  £  ♪
    Some 0xAE ∷ Some 0xB0 ∷ Some 0xBD ∷ Some 0xBF ∷ Some 0x2122 ∷ Some 0xA2 ∷ Some 0xA3 ∷ Some 0x266A
    -- 38: à  transparent  è  â  ê  î  ô  û
    ∷ Some 0xE0 ∷ None ∷ Some 0xE8 ∷ Some 0xE2 ∷ Some 0xEA ∷ Some 0xEE ∷ Some 0xF4 ∷ Some 0xFB ∷ []

-- the character of a second byte; the transparent space is none
unfoldable pub special_of : ℕ → Option ℕ
special_of byte =
    if nat_le 0x30 byte then slice_index_or special_characters (byte - 0x30) None else None

-- the entry of a table is the character
abbrev pub is_entry : ℕ → Option ℕ → Bool
is_entry ch (Some c) = c == ch
is_entry ch None = false
