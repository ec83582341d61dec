-- Believed: the library's answers stand on these definitions.
-- What the objects of the program stand for, and which lists of pairs lead to a field.
use Rattle.std.specs.Prelude.{◌≡◌, ℕ, ◌+◌, ◌-◌, ◌*◌, if◌then◌else◌, List, Option, None, slice_index_or}
use Rattle.line21_codes.specs.declared.channels.FieldNumber.{FieldNumber}
use Rattle.line21_codes.specs.declared.styles.Cell.{Cell}
use Rattle.line21_codes.specs.declared.pairs.Pair.{Pair}
use Rattle.line21_codes.specs.Repeats.{Waits}
use Rattle.line21_screen.specs.declared.pens.Pen.{Pen}
use Rattle.line21_screen.specs.declared.channel.Channel.{Channel}
use Rattle.line21_screen.specs.declared.field.Field.{Field}
use Rattle.line21_screen.specs.declared.memory.Memory.{Memory}
use Rattle.line21_screen.specs.Grid.{Grid, in_grid}
use Rattle.line21_screen.specs.Pens.{PenState}
use Rattle.line21_screen.specs.Channels.{ChannelState}
use Rattle.line21_screen.specs.Fields.{FieldState}
use Rattle.line21_screen.specs.Meaning.{after}

-- the place of a row and a column in a list of all cells, row by row
abbrev pub place : ℕ → ℕ → ℕ
place row col = (row - 1) * 32 + col

-- the grid of a list of all cells
unfoldable pub grid_of : List (Option Cell) → Grid
grid_of cells row col = if in_grid row col then slice_index_or cells (place row col) None else None

-- the grid of a memory
abbrev pub grid_in : Memory → Grid
grid_in memory = grid_of memory.cells.items

-- a pen
abbrev pub pen_of : Pen → PenState
pen_of pen = record { row = pen.row; col = pen.col; style = pen.style }

-- a channel
abbrev pub channel_of : Channel → ChannelState
channel_of channel = record {
  displayed = grid_of channel.displayed.cells.items;
  hidden = grid_of channel.hidden.cells.items;
  mode = channel.mode;
  base = channel.base;
  text = channel.text;
  pen = pen_of channel.pen;
}

-- a field
abbrev pub field_of : Field → FieldState
field_of field = record {
  first = channel_of field.first;
  second = channel_of field.second;
  selected = field.selected;
  xds = field.xds;
}

-- the pairs, newest first, lead to the object: it is of that field of line 21, it stands for the
-- state that they leave, and it ignores next what is then to be ignored
pub record Leads (in_field : FieldNumber) (before : List Pair) (field : Field) : Type 0 where
  pub of_field : field.in_field ≡ in_field
  pub state : field_of field ≡ after in_field before
  pub repeats : Waits before field.doubler
