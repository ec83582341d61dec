-- Believed in part: the program's answer stands on some of these definitions.
-- The cells that a run writes. A line 21 run in a colour other than white, or in italics, begins with a mid-row code,
-- which takes the cell left of the run: its lead cell (CTA-608-E, mid-row codes).
use Rattle.std.specs.Prelude.{ℕ, ◌+◌, ◌-◌, ◌==◌, ◌&&◌, ◌||◌, not, ◌<◌, nat_lt, nat_le, min, max, Bool, true, false, if◌then◌else◌, List, [], ◌∷◌, length}
use Rattle.std.specs.List.{list_any}
use Rattle.line21_codes.specs.declared.styles.Colour.{Colour}
use Rattle.line21_codes.specs.declared.styles.Colour.TheVariants as colour
use Rattle.cue_types.specs.declared.cue.Pen.{Pen}
use Rattle.cue_types.specs.declared.cue.Pen.TheVariants as pen
use Rattle.cue_types.specs.declared.cue.Run.{Run}

-- white, which needs no mid-row code
abbrev pub is_white : Colour → Bool
is_white colour.White = true
is_white colour.Green = false
is_white colour.Blue = false
is_white colour.Cyan = false
is_white colour.Red = false
is_white colour.Yellow = false
is_white colour.Magenta = false

-- a line 21 pen in a colour other than white, or in italics
abbrev pub is_coloured : Pen → Bool
is_coloured (pen.Line21 style) = not (is_white style.colour) || style.italic
is_coloured (pen.Dtv italic underline) = false

-- the run has a lead cell
abbrev pub has_lead : Run → Bool
has_lead run = is_coloured run.pen && nat_lt 0 run.col

-- the first column that the run writes, its lead cell counted
abbrev pub first_column : Run → ℕ
first_column run = if has_lead run then run.col - 1 else run.col

-- the column after the run's last character
abbrev pub end_column : Run → ℕ
end_column run = run.col + length run.text

-- the run writes the cell in this row and column
abbrev pub covers : Run → ℕ → ℕ → Bool
covers run row column = (row == run.row) && (nat_le (first_column run) column && nat_lt column (end_column run))

-- two runs write one cell: they stand in one row, and a column is in both
abbrev pub share_cell : Run → Run → Bool
share_cell a b =
    (a.row == b.row) && nat_lt (max (first_column a) (first_column b)) (min (end_column a) (end_column b))

-- some two of the runs write one cell
abbrev pub have_shared_cell : List Run → Bool
have_shared_cell [] = false
have_shared_cell (run ∷ runs) = list_any (share_cell run) runs || have_shared_cell runs

-- the run lies on a grid that holds both the 15 rows of line 21, counted from 1, and any window
pub record IsOnGrid (run : Run) : Type 0 where
  pub row : run.row < 16
  pub columns : end_column run < 64
