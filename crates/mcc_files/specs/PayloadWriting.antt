-- Believed: the program's answer stands on these definitions.
-- How the bytes of a packet are written as a payload: at each byte the letter with the most bytes that fits, else two upper-case hex
-- digits. U is never written, since readers of the format differ on it.
use Rattle.std.specs.Prelude.{◌≡◌, ℕ, ◌/◌, ◌%◌, ◌≤◌, ◌==◌, if◌then◌else◌, List, [], ◌∷◌, ◌++◌, length, Option, Some, None}
use Rattle.hex_digits.specs.HexDigits.{upper_hex_digit}
use Rattle.mcc_files.specs.Letters.{letter_bytes}

-- the bytes of a letter that is written: any but U
abbrev pub written_bytes : ℕ → Option (List ℕ)
written_bytes letter = if letter == 85 then None else letter_bytes letter

-- the bytes begin with the bytes of a letter that is written
pub record Fits (bytes : List ℕ) (letter : ℕ) (stands behind : List ℕ) : Type 0 where
  pub is : written_bytes letter ≡ Some stands
  pub spelled : bytes ≡ stands ++ behind

-- no other one that fits stands for more bytes
pub record FitsBest (bytes : List ℕ) (letter : ℕ) (stands behind : List ℕ) : Type 0 where
  pub fits : Fits bytes letter stands behind
  pub most : (other : ℕ) (others rest : List ℕ) → Fits bytes other others rest → length others ≤ length stands

-- none fits
abbrev pub FitsNone : List ℕ → Type 0
FitsNone bytes = (letter : ℕ) (stands behind : List ℕ) → Fits bytes letter stands behind → ⊥

-- the text is written of the bytes
pub data IsWritten : List ℕ → List ℕ → Type 0 where
  none : IsWritten [] []
  letter : (bytes : List ℕ) (letter : ℕ) (stands behind text : List ℕ)
      → FitsBest bytes letter stands behind → IsWritten behind text → IsWritten bytes (letter ∷ text)
  digits : (byte : ℕ) (bytes text : List ℕ)
      → FitsNone (byte ∷ bytes) → IsWritten bytes text
      → IsWritten (byte ∷ bytes) (upper_hex_digit (byte / 16) ∷ upper_hex_digit (byte % 16) ∷ text)
