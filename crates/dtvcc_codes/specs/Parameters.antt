-- Believed: the program's answer stands on these definitions.
-- The parameters of the commands that have fields of bits (CTA-708-E, command descriptions): what each bit of the bytes
-- after the code says. Bits that aren't named here are not looked at.
use Rattle.std.specs.Prelude.{ℕ, ◌+◌, ◌*◌, ◌/◌, ◌%◌, ◌==◌, Bool, List, slice_index}
use Rattle.dtvcc_codes.specs.declared.pens.Fill.{Fill}
use Rattle.dtvcc_codes.specs.declared.pens.PenAttr.{PenAttr}
use Rattle.dtvcc_codes.specs.declared.pens.PenColors.{PenColors}
use Rattle.dtvcc_codes.specs.declared.pens.Rgb.{Rgb}
use Rattle.dtvcc_codes.specs.declared.windows.Definition.{Definition}
use Rattle.dtvcc_codes.specs.declared.windows.WinAttr.{WinAttr}

-- the bit of this value is set in the byte
abbrev pub is_set : ℕ → ℕ → Bool
is_set byte bit = byte / bit % 2 == 1

-- a colour: -- rr gg bb
abbrev pub rgb_of : ℕ → Rgb
rgb_of byte = record { r = byte / 16 % 4; g = byte / 4 % 4; b = byte % 4 }

-- a colour with its opacity: oo rr gg bb
abbrev pub fill_of : ℕ → Fill
fill_of byte = record { opacity = byte / 64; r = byte / 16 % 4; g = byte / 4 % 4; b = byte % 4 }

-- SetPenAttributes: text tag, offset and pen size, tttt oo ss; italics, underline, edge type and font, i u eee fff
abbrev pub pen_attributes : List ℕ → PenAttr
pen_attributes parameters =
    let first = slice_index parameters 0 in
    let second = slice_index parameters 1 in
    record {
      size = first % 4;
      font = second % 8;
      tag = first / 16;
      offset = first / 4 % 4;
      italic = is_set second 0x80;
      underline = is_set second 0x40;
      edge = second / 8 % 8;
    }

-- SetPenColor: the foreground, oo rr gg bb; the background, oo rr gg bb; the edge, -- rr gg bb
abbrev pub pen_colors : List ℕ → PenColors
pen_colors parameters =
    record { fg = fill_of (slice_index parameters 0); bg = fill_of (slice_index parameters 1); edge = rgb_of (slice_index parameters 2) }

-- SetWindowAttributes: the fill, oo rr gg bb; the low bits of the border type, and the border's colour, bb rr gg bb; the high
-- bit of the border type, word wrap, print direction, scroll direction and justification, t w pp ss jj; effect speed, effect
-- direction and display effect, eeee dd ff
abbrev pub window_attributes : List ℕ → WinAttr
window_attributes parameters =
    let second = slice_index parameters 1 in
    let third = slice_index parameters 2 in
    let fourth = slice_index parameters 3 in
    record {
      justify = third % 4;
      print = third / 16 % 4;
      scroll = third / 4 % 4;
      wrap = is_set third 0x40;
      effect = fourth % 4;
      effect_dir = fourth / 4 % 4;
      effect_speed = fourth / 16;
      fill = fill_of (slice_index parameters 0);
      border_kind = third / 128 * 4 + second / 64;
      border = rgb_of second;
    }

-- DefineWindow of a window: visible, row lock, column lock and priority, -- v r c ppp; relative positioning and the anchor's
-- vertical position, p vvvvvvv; its horizontal position; the anchor point, and the rows less 1, aaaa rrrr; the columns less
-- 1, -- cccccc; window style and pen style, -- www ppp
abbrev pub definition : ℕ → List ℕ → Definition
definition id parameters =
    let first = slice_index parameters 0 in
    let second = slice_index parameters 1 in
    let fourth = slice_index parameters 3 in
    let sixth = slice_index parameters 5 in
    record {
      id = id;
      visible = is_set first 0x20;
      row_lock = is_set first 0x10;
      col_lock = is_set first 0x08;
      priority = first % 8;
      relative = is_set second 0x80;
      av = second % 128;
      ah = slice_index parameters 2;
      anchor = fourth / 16;
      rows = fourth % 16 + 1;
      cols = slice_index parameters 4 % 64 + 1;
      ws = sixth / 8 % 8;
      ps = sixth % 8;
    }
