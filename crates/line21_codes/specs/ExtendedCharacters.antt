-- Believed: the program's answer stands on these definitions.
-- The extended characters: first bytes 12 and 13, second bytes 20 to 3F
-- (CTA-608-E, extended character sets).
use Rattle.std.specs.Prelude.{ℕ, ◌-◌, ◌==◌, nat_le, if◌then◌else◌, List, [], ◌∷◌, Option, None, slice_get}
use Rattle.std.specs.Option.{option_map}

-- the characters of first byte 12 (Spanish, miscellaneous and French), each with the basic
-- character that is sent before it for receivers that lack the extended sets
abbrev pub extended_12 : List (ℕ × ℕ)
extended_12 =
    -- 20: Á A  É E  Ó O  Ú U
    (0xC1, 0x41) ∷ (0xC9, 0x45) ∷ (0xD3, 0x4F) ∷ (0xDA, 0x55)
    -- 24: Ü U  ü u  ‘ '  ¡ !
    ∷ (0xDC, 0x55) ∷ (0xFC, 0x75) ∷ (0x2018, 0x27) ∷ (0xA1, 0x21)
    -- 28: * space  ' '  — -  © c
    ∷ (0x2A, 0x20) ∷ (0x27, 0x27) ∷ (0x2014, 0x2D) ∷ (0xA9, 0x63)
    -- 2C: ℠ s  • .  “ "  ” "
    ∷ (0x2120, 0x73) ∷ (0x2022, 0x2E) ∷ (0x201C, 0x22) ∷ (0x201D, 0x22)
    -- 30: À A  Â A  Ç C  È E
    ∷ (0xC0, 0x41) ∷ (0xC2, 0x41) ∷ (0xC7, 0x43) ∷ (0xC8, 0x45)
    -- 34: Ê E  Ë E  ë e  Î I
    ∷ (0xCA, 0x45) ∷ (0xCB, 0x45) ∷ (0xEB, 0x65) ∷ (0xCE, 0x49)
    -- 38: Ï I  ï i  Ô O  Ù U
    ∷ (0xCF, 0x49) ∷ (0xEF, 0x69) ∷ (0xD4, 0x4F) ∷ (0xD9, 0x55)
    -- 3C: ù u  Û U  « "  » "
    ∷ (0xF9, 0x75) ∷ (0xDB, 0x55) ∷ (0xAB, 0x22) ∷ (0xBB, 0x22) ∷ []

-- the characters of first byte 13 (Portuguese, German and Danish), each with the basic character
-- that is sent before it for receivers that lack the extended sets
abbrev pub extended_13 : List (ℕ × ℕ)
extended_13 =
    -- 20: Ã A  ã a  Í I  Ì I
    (0xC3, 0x41) ∷ (0xE3, 0x61) ∷ (0xCD, 0x49) ∷ (0xCC, 0x49)
    -- 24: ì i  Ò O  ò o  Õ O
    ∷ (0xEC, 0x69) ∷ (0xD2, 0x4F) ∷ (0xF2, 0x6F) ∷ (0xD5, 0x4F)
    -- 28: õ o  { (  } )  \ /
    ∷ (0xF5, 0x6F) ∷ (0x7B, 0x28) ∷ (0x7D, 0x29) ∷ (0x5C, 0x2F)
    -- 2C: ^ space  _ -  | /  ~ -
    ∷ (0x5E, 0x20) ∷ (0x5F, 0x2D) ∷ (0x7C, 0x2F) ∷ (0x7E, 0x2D)
    -- 30: Ä A  ä a  Ö O  ö o
    ∷ (0xC4, 0x41) ∷ (0xE4, 0x61) ∷ (0xD6, 0x4F) ∷ (0xF6, 0x6F)
    -- 34: ß s  ¥ Y  ¤ C  ¦ /
    ∷ (0xDF, 0x73) ∷ (0xA5, 0x59) ∷ (0xA4, 0x43) ∷ (0xA6, 0x2F)
    -- 38: Å A  å a  Ø O  ø o
    ∷ (0xC5, 0x41) ∷ (0xE5, 0x61) ∷ (0xD8, 0x4F) ∷ (0xF8, 0x6F)
    -- 3C: ┌ +  ┐ +  └ +  ┘ +
    ∷ (0x250C, 0x2B) ∷ (0x2510, 0x2B) ∷ (0x2514, 0x2B) ∷ (0x2518, 0x2B) ∷ []

-- the table of a first byte
abbrev pub extended_set : ℕ → List (ℕ × ℕ)
extended_set set = if set == 0x12 then extended_12 else if set == 0x13 then extended_13 else []

-- the character of a first and a second byte
unfoldable pub extended_of : ℕ → ℕ → Option ℕ
extended_of set byte =
    if nat_le 0x20 byte then option_map (λ entry. entry.0) (slice_get (extended_set set) (byte - 0x20))
    else None
