-- Believed in part: the program's answer stands on some of these definitions.
-- The spelling of a character: basic before special before extended (CTA-608-E, 47 CFR 79.101).
use Rattle.std.specs.Prelude.{◌≡◌, ◌≢◌, ℕ, ◌+◌, ◌<◌, ◌≤◌, ◌==◌, Option, Some, slice_index_or}
use Rattle.std.specs.List.{position}
use Rattle.std.specs.Option.{option_map, option_or}
use Rattle.line21_codes.specs.declared.characters.Spelling.{Spelling}
use Rattle.line21_codes.specs.declared.characters.Spelling.TheVariants.{Basic, Special, Extended}
use Rattle.line21_codes.specs.BasicCharacters.{basic_characters, basic_of}
use Rattle.line21_codes.specs.SpecialCharacters.{special_characters, special_of, is_entry}
use Rattle.line21_codes.specs.ExtendedCharacters.{extended_set, extended_of}

-- the spelling by the basic characters
abbrev pub basic_spelling : ℕ → Option Spelling
basic_spelling ch =
    option_map (λ place. Basic (0x20 + place)) (position (λ c. c == ch) basic_characters)

-- the spelling by the special characters
abbrev pub special_spelling : ℕ → Option Spelling
special_spelling ch =
    option_map (λ place. Special (0x30 + place)) (position (is_entry ch) special_characters)

-- the spelling by the extended characters of a first byte, with its fallback
abbrev pub extended_spelling : ℕ → ℕ → Option Spelling
extended_spelling set ch =
    option_map (λ place. Extended (slice_index_or (extended_set set) place (0, 0)).1 set (0x20 + place))
    (position (λ entry. entry.0 == ch) (extended_set set))

-- the spelling of a character; one in none of the tables has none
unfoldable pub spelling_of : ℕ → Option Spelling
spelling_of ch =
    option_or (basic_spelling ch)
    (option_or (special_spelling ch) (option_or (extended_spelling 0x12 ch) (extended_spelling 0x13 ch)))

-- a spelling shows the character: its bytes are of the character's kind, and the kind's table has the character
-- there
abbrev pub Shows : ℕ → Spelling → Type 0
Shows ch (Basic byte) = (0x20 ≤ byte) × (byte < 0x80) × (basic_of byte ≡ Some ch)
Shows ch (Special byte) = (0x30 ≤ byte) × (byte < 0x40) × (special_of byte ≡ Some ch)
Shows ch (Extended fallback set byte) =
    (0x20 ≤ fallback) × (fallback < 0x80) × (0x12 ≤ set) × (set ≤ 0x13)
    × (0x20 ≤ byte) × (byte < 0x40) × (extended_of set byte ≡ Some ch)

-- no table has the character
pub record HasNoCode (ch : ℕ) : Type 0 where
  pub basic : (byte : ℕ) → basic_of byte ≢ Some ch
  pub special : (byte : ℕ) → special_of byte ≢ Some ch
  pub extended : (set byte : ℕ) → extended_of set byte ≢ Some ch
