-- Believed: the program's answer stands on these definitions.
-- The characters of DTVCC: the code sets G0, G1, G2 and G3 (CTA-708-E, 7.1).
use Rattle.std.specs.Prelude.{ℕ, ◌==◌, nat_lt, if◌then◌else◌, List, [], ◌∷◌, Option, Some, None, find, unwrap_or}
use Rattle.std.specs.Option.{option_map}

-- the character that is shown where a code has none of its own: _
abbrev pub low_line : ℕ
low_line = 0x5F

-- G0, the codes 20 to 7F: the characters of ASCII, but 7F is ♪
abbrev pub g0_of : ℕ → ℕ
g0_of code = if code == 0x7F then 0x266A else code

-- G1, the codes A0 to FF: the characters of ISO 8859-1, which Unicode has at the same numbers
abbrev pub g1_of : ℕ → ℕ
g1_of code = code

-- G2: the codes, among 20 to 7F, that have a character, each with its character
abbrev pub g2_characters : List (ℕ × ℕ)
g2_characters =
    -- …  Š  Œ  █
    (0x25, 0x2026) ∷ (0x2A, 0x160) ∷ (0x2C, 0x152) ∷ (0x30, 0x2588)
    -- ‘  ’  “  ”  •
    ∷ (0x31, 0x2018) ∷ (0x32, 0x2019) ∷ (0x33, 0x201C) ∷ (0x34, 0x201D) ∷ (0x35, 0x2022)
    -- ™  š  œ  ℠  Ÿ
    ∷ (0x39, 0x2122) ∷ (0x3A, 0x161) ∷ (0x3C, 0x153) ∷ (0x3D, 0x2120) ∷ (0x3F, 0x178)
    -- ⅛  ⅜  ⅝  ⅞
    ∷ (0x76, 0x215B) ∷ (0x77, 0x215C) ∷ (0x78, 0x215D) ∷ (0x79, 0x215E)
    -- │  ┐  └  ─  ┘  ┌
    ∷ (0x7A, 0x2502) ∷ (0x7B, 0x2510) ∷ (0x7C, 0x2514) ∷ (0x7D, 0x2500) ∷ (0x7E, 0x2518) ∷ (0x7F, 0x250C) ∷ []

-- what a code of G2 puts: 20 and 21 are the transparent space, and a code without a character puts the low line
unfoldable pub g2_of : ℕ → Option ℕ
g2_of code =
    if nat_lt code 0x22 then None
    else Some (unwrap_or (option_map (λ entry. entry.1) (find (λ entry. entry.0 == code) g2_characters)) low_line)
