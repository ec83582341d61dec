-- Between crates: the program's answer stands on none of these definitions.
-- A list with a window as literals, whose authored windows are worked out by hand.
use Rattle.std.specs.Prelude.{ℕ, Bool, true, false, List, [], ◌∷◌, Option, Some, None}
use Rattle.dtvcc_windows.specs.Fill.{Fill}
use Rattle.dtvcc_windows.specs.PenAttr.{PenAttr}
use Rattle.dtvcc_windows.specs.PenColors.{PenColors}
use Rattle.dtvcc_windows.specs.WinAttr.{WinAttr}
use Rattle.dtvcc_windows.specs.Showing.{ShownWindow}
use Rattle.dtvcc_windows.specs.declared.cells.DCell.{DCell}
use Rattle.cue_types.specs.declared.cue.Cue.{Cue}
use Rattle.cue_types.specs.declared.cue.Kind.TheVariants as kind
use Rattle.cue_types.specs.declared.cue.Pen.TheVariants as pen

-- a fill of its four digits
abbrev pub digits : ℕ → ℕ → ℕ → ℕ → Fill
digits opacity r g b = record { opacity = opacity; r = r; g = g; b = b }

-- `attr,2,0,3,1,0,0,0,3000,3,300`
abbrev pub centred : WinAttr
centred = record {
  justify = 2;
  print = 0;
  scroll = 3;
  wrap = true;
  effect = 0;
  effect_dir = 0;
  effect_speed = 0;
  fill = digits 3 0 0 0;
  border_kind = 3;
  border = record { r = 3; g = 0; b = 0 };
}

-- `colour,0330,3000,000`
abbrev pub yellow : PenColors
yellow = record { fg = digits 0 3 3 0; bg = digits 3 0 0 0; edge = record { r = 0; g = 0; b = 0 } }

-- the cues of
-- `win,1,0,0,60,100,0,0,60,50,1,10,0,1,1`, `attr,2,0,3,1,0,0,0,3000,3,300`, `run,0,0,plain,HI`, `colour,0330,3000,000`,
-- `run,0,4,plain-i,X` and `win,1,1,70,90,120,0,0,10,50,2,10,7,4,1`, `run,1,0,plain,A`
abbrev pub two_windows : List Cue
two_windows = record {
  load = 0;
  show = 60;
  hide = Some 100;
  kind = kind.Win (record {
    service = 1;
    id = 0;
    delay = 0;
    anchor = 0;
    av = 60;
    ah = 50;
    rows = 1;
    cols = 10;
    priority = 0;
    ws = 1;
    ps = 1;
    attr = Some centred;
  });
  runs = record { row = 0; col = 0; pen = pen.Dtv false false; text = 72 ∷ 73 ∷ []; colors = Some yellow }
      ∷ record { row = 0; col = 4; pen = pen.Dtv true false; text = 88 ∷ []; colors = None } ∷ [];
} ∷ record {
  load = 70;
  show = 90;
  hide = Some 120;
  kind = kind.Win (record {
    service = 1;
    id = 1;
    delay = 0;
    anchor = 0;
    av = 10;
    ah = 50;
    rows = 2;
    cols = 10;
    priority = 7;
    ws = 4;
    ps = 1;
    attr = None;
  });
  runs = record { row = 1; col = 0; pen = pen.Dtv false false; text = 65 ∷ []; colors = None } ∷ [];
} ∷ []

-- a pen of standard size in the default font, upright or in italics
abbrev pub standard : Bool → PenAttr
standard italic = record { size = 1; font = 0; tag = 0; offset = 1; italic = italic; underline = false; edge = 0 }

-- a character
abbrev pub cell : ℕ → Bool → PenColors → Option DCell
cell ch italic colors = Some (record { ch = ch; pen = standard italic; colors = colors })

-- white on black, as pen style 1 has it
abbrev pub example_white : PenColors
example_white = record { fg = digits 0 2 2 2; bg = digits 0 0 0 0; edge = record { r = 0; g = 0; b = 0 } }

-- the place of a window, its size and its priority
abbrev pub seen_place : ShownWindow → ℕ × ℕ × ℕ × ℕ × ℕ
seen_place w = (w.av, w.ah, w.rows, w.cols, w.priority)

-- whether its place is relative, its locks and its attributes
abbrev pub ways_of : ShownWindow → Bool × Bool × Bool × WinAttr
ways_of w = (w.relative, w.row_lock, w.col_lock, w.attributes)
