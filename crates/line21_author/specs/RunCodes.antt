-- Believed in part: the program's answer stands on some of these definitions.
-- The codes of a run: the pen is brought to its place and style, and its text follows
-- (preambles, tab offsets and mid-row codes: CTA-608-E; 47 CFR 79.101).
use Rattle.std.specs.Prelude.{ℕ, ◌-◌, ◌%◌, ◌==◌, ◌&&◌, not, Bool, false, if◌then◌else◌, Option, Some, None, List, [], ◌∷◌, ◌++◌}
use Rattle.std.specs.List.{filter_map}
use Rattle.line21_codes.specs.declared.codes.Code.{Code}
use Rattle.line21_codes.specs.declared.codes.Control.TheVariants.{Preamble, Tab, MidRow}
use Rattle.line21_codes.specs.declared.styles.Colour.{Colour}
use Rattle.line21_codes.specs.declared.styles.Colour.TheVariants.{White}
use Rattle.line21_codes.specs.declared.styles.Style.{Style}
use Rattle.cue_lists.specs.Rules.Cells.{is_white}
use Rattle.cue_lists.specs.declared.cue.Pen.{Pen}
use Rattle.cue_lists.specs.declared.cue.Pen.TheVariants.{Line21, Dtv}
use Rattle.cue_lists.specs.declared.cue.Run.{Run}
use Rattle.line21_author.specs.FirstChannel.{first_channel}
use Rattle.line21_author.specs.TextCodes.{packed}
use Rattle.line21_codes.specs.Spellings.{spelling_of}

-- upright white, underlined or not
abbrev pub white : Bool → Style
white underline = record { colour = White; italic = false; underline = underline }

-- the style is upright white, which a preamble has at every indent
abbrev pub is_upright_white : Style → Bool
is_upright_white style = is_white style.colour && not style.italic

-- a tab offset, where one is needed
abbrev pub tab_codes : ℕ → List Code
tab_codes columns = if columns == 0 then [] else first_channel (Tab columns) ∷ []

-- to a row and column in white: a preamble with the indent, a multiple of 4, and a tab offset for the rest
abbrev pub white_approach : ℕ → ℕ → Bool → List Code
white_approach row col underline =
    first_channel (Preamble row (col - col % 4) (white underline))
    ∷ (if col % 4 == 0 then [] else first_channel (Tab (col % 4)) ∷ [])

-- the colour that a style's mid-row code names: none for italics
abbrev pub mid_row_colour : Style → Option Colour
mid_row_colour style = if style.italic then None else Some style.colour

-- to a row, column and style: any style has a preamble at column 0; further right a style other than
-- upright white is set by a mid-row code, which names a colour or italics, and takes the cell left of the column
abbrev pub approach : ℕ → ℕ → Style → List Code
approach row col style =
    if is_white style.colour && not style.italic then white_approach row col style.underline
    else if col == 0 then first_channel (Preamble row 0 style) ∷ []
    else white_approach row (col - 1) false
    ++ first_channel (MidRow (if style.italic then None else Some style.colour) style.underline) ∷ []

-- the codes of a run with a pen; the pens of caption windows have none in line 21
abbrev pub codes_with : Pen → Run → List Code
codes_with (Line21 style) run =
    approach run.row run.col style ++ packed None (filter_map spelling_of run.text)
codes_with (Dtv italic underline) run = []

-- the codes of a run
abbrev pub run_codes : Run → List Code
run_codes run = codes_with run.pen run
