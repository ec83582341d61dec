-- Believed: the program's answer stands on these definitions.
-- The items of payloads: two hex digits for a byte, or a letter for several.
use Rattle.std.specs.Prelude.{◌≡◌, ℕ, ◌+◌, ◌*◌, ◌⊎◌, List, [], ◌∷◌, ◌++◌, Some}
use Rattle.hex_digits.specs.HexDigits.{hex_value}
use Rattle.mcc_files.specs.Letters.{letter_bytes}

-- two hex digits of either case, the high one first, are a byte
pub record AreDigits (bytes text : List ℕ) : Type 0 where
  pub high : ℕ
  pub low : ℕ
  pub first : ℕ
  pub second : ℕ
  pub spelled : text ≡ high ∷ low ∷ []
  pub high_is : hex_value high ≡ Some first
  pub low_is : hex_value low ≡ Some second
  pub are : bytes ≡ (16 * first + second) ∷ []

-- a letter stands for bytes
pub record IsLetter (bytes text : List ℕ) : Type 0 where
  pub letter : ℕ
  pub spelled : text ≡ letter ∷ []
  pub is : letter_bytes letter ≡ Some bytes

-- the text is one item, which stands for these bytes
abbrev pub IsItem : List ℕ → List ℕ → Type 0
IsItem bytes text = AreDigits bytes text ⊎ IsLetter bytes text

-- the text is items, which stand for these bytes each
abbrev pub AreItems : List (List ℕ) → List ℕ → Type 0
AreItems [] text = text ≡ []
AreItems (bytes ∷ items) text =
    (front : List ℕ) × (rest : List ℕ) × IsItem bytes front × AreItems items rest × (text ≡ front ++ rest)
