-- Believed in part: the program's answer stands on some of these definitions.
-- The codes of a text: its characters from left to right, two basic characters to a text pair
-- (CTA-608-E; 47 CFR 79.101).
use Rattle.std.specs.Prelude.{ℕ, Option, Some, None, List, [], ◌∷◌, ◌++◌}
use Rattle.std.specs.List.{filter_map}
use Rattle.line21_codes.specs.declared.codes.Code.{Code}
use Rattle.line21_codes.specs.declared.codes.Code.TheVariants.{Text}
use Rattle.line21_codes.specs.declared.codes.Control.TheVariants.{Special as special_character, Extended as extended_character}
use Rattle.line21_codes.specs.declared.characters.Spelling.{Spelling}
use Rattle.line21_codes.specs.declared.characters.Spelling.TheVariants.{Basic, Special, Extended}
use Rattle.line21_codes.specs.Spellings.{spelling_of}
use Rattle.line21_author.specs.FirstChannel.{first_channel}

-- a basic character that waits for its second is completed with the null byte
abbrev pub completed_pair : Option ℕ → List Code
completed_pair None = []
completed_pair (Some first) = Text first 0 ∷ []

-- a fallback ends its text pair: it stands beside the waiting character, or alone
abbrev pub fallback_pair : Option ℕ → ℕ → List Code
fallback_pair None fallback = Text fallback 0 ∷ []
fallback_pair (Some first) fallback = Text first fallback ∷ []

-- the codes of the spellings of a text, where a basic character may wait for its second: basic
-- characters are paired, a special character is one code, and an extended character is its
-- fallback and then one code; before a control code and at the end a waiting character is completed
abbrev pub packed : Option ℕ → List Spelling → List Code
packed waiting [] = completed_pair waiting
packed None (Basic byte ∷ rest) = packed (Some byte) rest
packed (Some first) (Basic byte ∷ rest) = Text first byte ∷ packed None rest
packed waiting (Special byte ∷ rest) = completed_pair waiting ++ first_channel (special_character byte) ∷ packed None rest
packed waiting (Extended fallback set byte ∷ rest) =
    fallback_pair waiting fallback ++ first_channel (extended_character set byte) ∷ packed None rest

-- the codes of a text
abbrev pub text_codes : List ℕ → List Code
text_codes text = packed None (filter_map spelling_of text)
