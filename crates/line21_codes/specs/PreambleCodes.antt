-- Believed: the program's answer stands on these definitions.
-- The preamble address codes (CTA-608-E and 47 CFR 79.101, preamble address codes).
use Rattle.std.specs.Prelude.{ℕ, ◌-◌, ◌/◌, ◌%◌, ◌==◌, nat_lt, Bool, true, false, if◌then◌else◌, List, [], ◌∷◌, slice_index_or}
use Rattle.line21_codes.specs.declared.codes.Control.{Control}
use Rattle.line21_codes.specs.declared.codes.Control.TheVariants.{Preamble, Skipped}
use Rattle.line21_codes.specs.declared.styles.Colour.{Colour}
use Rattle.line21_codes.specs.declared.styles.Colour.TheVariants.{White, Green, Blue, Cyan, Red, Yellow, Magenta}
use Rattle.line21_codes.specs.declared.styles.Style.{Style}

-- the rows of the first bytes 10 to 17, with a second byte 40 to 5F and with one 60 to 7F; 0 is no
-- row, and then the pair is skipped
abbrev pub preamble_rows : List (ℕ × ℕ)
preamble_rows =
    (11, 0) ∷ (1, 2) ∷ (3, 4) ∷ (12, 13) ∷ (14, 15) ∷ (5, 6) ∷ (7, 8) ∷ (9, 10) ∷ []

-- column, colour and italics of the second byte's low five bits 00, 02, .. 1E
abbrev pub preamble_settings : List (ℕ × Colour × Bool)
preamble_settings =
    (0, White, false) ∷ (0, Green, false) ∷ (0, Blue, false) ∷ (0, Cyan, false)
    ∷ (0, Red, false) ∷ (0, Yellow, false) ∷ (0, Magenta, false) ∷ (0, White, true)
    ∷ (0, White, false) ∷ (4, White, false) ∷ (8, White, false) ∷ (12, White, false)
    ∷ (16, White, false) ∷ (20, White, false) ∷ (24, White, false) ∷ (28, White, false) ∷ []

-- the row of two bytes
abbrev pub preamble_row : ℕ → ℕ → ℕ
preamble_row first second =
    let rows = slice_index_or preamble_rows (first - 0x10) (0, 0) in
    if nat_lt second 0x60 then rows.0 else rows.1

-- the style of the low five bits: an odd second byte is underlined
abbrev pub preamble_style : Colour → Bool → ℕ → Style
preamble_style colour italic second = record { colour = colour; italic = italic; underline = second % 2 == 1 }

-- the code of two bytes
abbrev pub preamble_at : ℕ → ℕ → Control
preamble_at first second =
    let setting = slice_index_or preamble_settings (second % 32 / 2) (0, White, false) in
    if preamble_row first second == 0 then Skipped
    else Preamble (preamble_row first second) setting.0 (preamble_style setting.1 setting.2 second)
