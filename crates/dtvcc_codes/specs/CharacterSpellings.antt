-- Believed: the program's answer stands on these definitions.
-- The spelling of a character: by G0 where that has it, else by G1, else by G2 after EXT1 (CTA-708-E, 7.1).
use Rattle.std.specs.Prelude.{ℕ, ◌==◌, ◌&&◌, nat_lt, nat_le, if◌then◌else◌, List, [], ◌∷◌, Option, Some, None, find}
use Rattle.std.specs.Option.{option_map, option_or}
use Rattle.dtvcc_codes.specs.Characters.{g2_characters}
use Rattle.dtvcc_codes.specs.CodeTables.{ext1}

-- by G0: ♪ is 7F, and the other characters are ASCII's
abbrev pub g0_spelling : ℕ → Option (List ℕ)
g0_spelling ch =
    if ch == 0x266A then Some (0x7F ∷ [])
    else if nat_le 0x20 ch && nat_lt ch 0x7F then Some (ch ∷ [])
    else None

-- by G1: the characters of ISO 8859-1 from the no-break space on
abbrev pub g1_spelling : ℕ → Option (List ℕ)
g1_spelling ch = if nat_le 0xA0 ch && nat_le ch 0xFF then Some (ch ∷ []) else None

-- by G2: the code that has the character
abbrev pub g2_spelling : ℕ → Option (List ℕ)
g2_spelling ch = option_map (λ entry. ext1 ∷ entry.0 ∷ []) (find (λ entry. entry.1 == ch) g2_characters)

-- the spelling of a character, if a table has it
unfoldable pub dtvcc_spelling : ℕ → Option (List ℕ)
dtvcc_spelling ch = option_or (g0_spelling ch) (option_or (g1_spelling ch) (g2_spelling ch))
