-- Believed: the program's answer stands on these definitions.
-- The mid-row codes: first byte 11, second bytes 20 to 2F
-- (CTA-608-E and 47 CFR 79.101, mid-row codes).
use Rattle.std.specs.Prelude.{ℕ, ◌-◌, ◌/◌, ◌%◌, ◌==◌, List, [], ◌∷◌, Option, Some, None, slice_index_or}
use Rattle.line21_codes.specs.declared.codes.Control.{Control}
use Rattle.line21_codes.specs.declared.codes.Control.TheVariants.{MidRow}
use Rattle.line21_codes.specs.declared.styles.Colour.{Colour}
use Rattle.line21_codes.specs.declared.styles.Colour.TheVariants.{White, Green, Blue, Cyan, Red, Yellow, Magenta}

-- the colours of the second bytes 20, 22, .. 2E; the last is italics
abbrev pub mid_row_colours : List (Option Colour)
mid_row_colours =
    Some White ∷ Some Green ∷ Some Blue ∷ Some Cyan
    ∷ Some Red ∷ Some Yellow ∷ Some Magenta ∷ None ∷ []

-- the code of the second byte: an odd one is underlined
abbrev pub mid_row_at : ℕ → Control
mid_row_at second =
    MidRow (slice_index_or mid_row_colours ((second - 0x20) / 2) None) (second % 2 == 1)
