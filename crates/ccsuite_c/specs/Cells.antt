-- Believed: the library's answers stand on these definitions.
-- What C learns of cells and windows.
use Rattle.std.specs.Prelude.{ℕ, Bool, true, false, Option, Some, None, if◌then◌else◌, ◌==◌, replicate}
use Rattle.dtvcc_codes.specs.declared.pens.Fill.{Fill}
use Rattle.dtvcc_codes.specs.declared.pens.Rgb.{Rgb}
use Rattle.dtvcc_windows.specs.Windows.{WindowState}
use Rattle.dtvcc_windows.specs.declared.cells.DCell.{DCell}
use Rattle.line21_codes.specs.declared.channels.Chan.{Chan}
use Rattle.line21_codes.specs.declared.channels.Chan.TheVariants as chan
use Rattle.line21_codes.specs.declared.styles.Cell.{Cell}
use Rattle.line21_codes.specs.declared.styles.Colour.{Colour}
use Rattle.line21_codes.specs.declared.styles.Colour.TheVariants as colour
use Rattle.ccsuite_c.specs.declared.cells.Edge.{Edge}
use Rattle.ccsuite_c.specs.declared.cells.Shade.{Shade}
use Rattle.ccsuite_c.specs.declared.cells.TextCell.{TextCell}
use Rattle.ccsuite_c.specs.declared.cells.WindowCell.{WindowCell}
use Rattle.ccsuite_c.specs.declared.cells.WindowSeen.{WindowSeen}

abbrev pub bit : Bool → ℕ
bit true = 1
bit false = 0

-- the channel of line 21 with this number
abbrev pub chan_of : ℕ → Option Chan
chan_of n =
    if n == 1 then Some chan.Cc1 else if n == 2 then Some chan.Cc2 else if n == 3 then Some chan.Cc3 else if n == 4 then Some chan.Cc4 else None

abbrev pub colour_number : Colour → ℕ
colour_number colour.White = 0
colour_number colour.Green = 1
colour_number colour.Blue = 2
colour_number colour.Cyan = 3
colour_number colour.Red = 4
colour_number colour.Yellow = 5
colour_number colour.Magenta = 6

-- a cell of a channel, if there is a character
abbrev pub text_cell : Option Cell → TextCell
text_cell None = record { ch = 0; colour = 0; italic = 0; underline = 0; reserved = 0 }
text_cell (Some cell) =
    record {
      ch = cell.ch;
      colour = colour_number cell.style.colour;
      italic = bit cell.style.italic;
      underline = bit cell.style.underline;
      reserved = 0;
    }

abbrev pub shade_of : Fill → Shade
shade_of fill = record { opacity = fill.opacity; red = fill.r; green = fill.g; blue = fill.b }

abbrev pub edge_of : Rgb → Edge
edge_of rgb = record { red = rgb.r; green = rgb.g; blue = rgb.b }

abbrev pub no_shade : Shade
no_shade = record { opacity = 0; red = 0; green = 0; blue = 0 }

abbrev pub no_edge : Edge
no_edge = record { red = 0; green = 0; blue = 0 }

-- a cell of a window, if there is a character
abbrev pub window_cell : Option DCell → WindowCell
window_cell None =
    record {
      ch = 0;
      size = 0;
      font = 0;
      tag = 0;
      offset = 0;
      italic = 0;
      underline = 0;
      edge = 0;
      foreground = no_shade;
      background = no_shade;
      edge_colour = no_edge;
      reserved = replicate 2 0;
    }
window_cell (Some cell) =
    record {
      ch = cell.ch;
      size = cell.pen.size;
      font = cell.pen.font;
      tag = cell.pen.tag;
      offset = cell.pen.offset;
      italic = bit cell.pen.italic;
      underline = bit cell.pen.underline;
      edge = cell.pen.edge;
      foreground = shade_of cell.colors.fg;
      background = shade_of cell.colors.bg;
      edge_colour = edge_of cell.colors.edge;
      reserved = replicate 2 0;
    }

-- a window
abbrev pub window_seen : WindowState → WindowSeen
window_seen w =
    record {
      visible = bit w.visible;
      rows = w.definition.rows;
      columns = w.definition.cols;
      row_lock = bit w.definition.row_lock;
      column_lock = bit w.definition.col_lock;
      priority = w.definition.priority;
      anchor = w.definition.anchor;
      relative = bit w.definition.relative;
      vertical = w.definition.av;
      horizontal = w.definition.ah;
      justify = w.attributes.justify;
      print = w.attributes.print;
      scroll = w.attributes.scroll;
      wrap = bit w.attributes.wrap;
      effect = w.attributes.effect;
      effect_direction = w.attributes.effect_dir;
      effect_speed = w.attributes.effect_speed;
      border = w.attributes.border_kind;
      fill = shade_of w.attributes.fill;
      border_colour = edge_of w.attributes.border;
      reserved = replicate 7 0;
    }
