-- Believed: the program's answer stands on these definitions.
-- The pen: where the next character goes, and how it is shown (CTA-608-E and 47 CFR 79.101,
-- cursor). Past the last column it stands at column 32; that place is this project's own choice.
use Rattle.std.specs.Prelude.{ℕ, ◌+◌, ◌==◌, min, Bool, true, false, if◌then◌else◌, Option, Some, None}
use Rattle.line21_codes.specs.declared.styles.Colour.{Colour}
use Rattle.line21_codes.specs.declared.styles.Colour.TheVariants.{White}
use Rattle.line21_codes.specs.declared.styles.Style.{Style}

pub record PenState : Type 0 where
  pub row : ℕ
  pub col : ℕ
  pub style : Style

-- white without italics and underline
abbrev pub plain : Style
plain = record { colour = White; italic = false; underline = false }

-- the pen at the first column of a row, plain white
abbrev pub pen_at_row : ℕ → PenState
pen_at_row row = record { row = row; col = 0; style = plain }

-- the pen in another row, at its column and with its style
abbrev pub in_row : ℕ → PenState → PenState
in_row row pen = record { row = row; col = pen.col; style = pen.style }

-- the pen at another column
abbrev pub at_column : ℕ → PenState → PenState
at_column col pen = record { row = pen.row; col = col; style = pen.style }

-- the pen with another style
abbrev pub with_style : Style → PenState → PenState
with_style style pen = record { row = pen.row; col = pen.col; style = style }

-- the column that a character goes to: past the last column it replaces the last cell
abbrev pub print_column : PenState → ℕ
print_column pen = min pen.col 31

-- the pen after a character
abbrev pub advanced : PenState → PenState
advanced pen = at_column (min (pen.col + 1) 32) pen

-- a tab offset goes to the last column at most, and moves no pen that follows it
-- (for the last, this project's own choice)
abbrev pub tabbed : ℕ → PenState → PenState
tabbed columns pen = if pen.col == 32 then pen else at_column (min (pen.col + columns) 31) pen

-- the style after a mid-row code: a colour ends italics, and italics keep the colour
abbrev pub mid_row_style : Option Colour → Bool → Style → Style
mid_row_style (Some colour) underline style =
    record { colour = colour; italic = false; underline = underline }
mid_row_style None underline style =
    record { colour = style.colour; italic = true; underline = underline }
