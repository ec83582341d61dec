-- Believed: the program's answer stands on these definitions.
-- The predefined window styles and pen styles 1 to 7 (CTA-708-E, predefined window styles and predefined
-- pen styles). Where the standard calls a value not applicable it is 0, which is this project's own choice.
use Rattle.std.specs.Prelude.{ℕ, ◌-◌, Bool, true, false, List, [], ◌∷◌, slice_index_or}
use Rattle.dtvcc_codes.specs.declared.pens.Fill.{Fill}
use Rattle.dtvcc_codes.specs.declared.pens.PenAttr.{PenAttr}
use Rattle.dtvcc_codes.specs.declared.pens.PenColors.{PenColors}
use Rattle.dtvcc_codes.specs.declared.pens.Rgb.{Rgb}
use Rattle.dtvcc_codes.specs.declared.windows.WinAttr.{WinAttr}

-- black, and black and white of an opacity
abbrev pub black : Rgb
black = record { r = 0; g = 0; b = 0 }

abbrev pub black_fill : ℕ → Fill
black_fill opacity = record { opacity = opacity; r = 0; g = 0; b = 0 }

abbrev pub white_fill : Fill
white_fill = record { opacity = 0; r = 2; g = 2; b = 2 }

-- all window styles snap, have no border and are black: they differ in the justification, the directions of
-- printing and scrolling, the word wrap and the opacity of the fill
abbrev pub black_window : ℕ → ℕ → ℕ → Bool → ℕ → WinAttr
black_window justify print scroll wrap opacity = record {
  justify = justify;
  print = print;
  scroll = scroll;
  wrap = wrap;
  effect = 0;
  effect_dir = 0;
  effect_speed = 0;
  fill = black_fill opacity;
  border_kind = 0;
  border = black;
}

-- each with its justification, directions of printing and scrolling, word wrap and opacity
abbrev pub window_styles : List WinAttr
window_styles =
    black_window 0 0 3 false 0
    ∷ black_window 0 0 3 false 3
    ∷ black_window 2 0 3 false 0
    ∷ black_window 0 0 3 true 0
    ∷ black_window 0 0 3 true 3
    ∷ black_window 2 0 3 true 0
    ∷ black_window 0 2 1 false 0
    ∷ []

-- the window style of a number from 1 to 7
abbrev pub window_style : ℕ → WinAttr
window_style number = slice_index_or window_styles (number - 1) (black_window 0 0 0 false 0)

-- all pen styles are of standard size, upright, without an underline, of normal offset and dialogue
abbrev pub upright_pen : ℕ → ℕ → PenAttr
upright_pen font edge = record {
  size = 1;
  font = font;
  tag = 0;
  offset = 1;
  italic = false;
  underline = false;
  edge = edge;
}

-- and solid white on black, of a background's opacity
abbrev pub white_on_black : ℕ → PenColors
white_on_black opacity = record { fg = white_fill; bg = black_fill opacity; edge = black }

-- each with its font, edge and background opacity
abbrev pub pen_styles : List (PenAttr × PenColors)
pen_styles =
    (upright_pen 0 0, white_on_black 0)
    ∷ (upright_pen 1 0, white_on_black 0)
    ∷ (upright_pen 2 0, white_on_black 0)
    ∷ (upright_pen 3 0, white_on_black 0)
    ∷ (upright_pen 4 0, white_on_black 0)
    ∷ (upright_pen 3 3, white_on_black 3)
    ∷ (upright_pen 4 3, white_on_black 3)
    ∷ []

-- the pen attributes and colours of a pen style, of a number from 1 to 7
abbrev pub pen_style : ℕ → PenAttr × PenColors
pen_style number = slice_index_or pen_styles (number - 1) (upright_pen 0 0, white_on_black 0)
