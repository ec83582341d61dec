-- Between crates: the program's answer stands on none of these definitions.
-- Lists as literals, whose authored grids are worked out by hand.
use Rattle.std.specs.Prelude.{ℕ, false, List, [], ◌∷◌, Option, Some, None}
use Rattle.line21_codes.specs.declared.channels.Chan.TheVariants as chan
use Rattle.line21_codes.specs.declared.styles.Cell.{Cell}
use Rattle.line21_codes.specs.declared.styles.Colour.TheVariants as colour
use Rattle.cue_types.specs.declared.cue.Cue.{Cue}
use Rattle.cue_types.specs.declared.cue.Kind.TheVariants as kind
use Rattle.cue_types.specs.declared.cue.Pen.TheVariants as pen

-- the cues of `pop,CC1,0,14,40` with `run,15,2,red,HI`
abbrev pub red_hi : List Cue
red_hi = record {
  load = 0;
  show = 14;
  hide = Some 40;
  kind = kind.Pop chan.Cc1;
  runs = record {
    row = 15;
    col = 2;
    pen = pen.Line21 (record { colour = colour.Red; italic = false; underline = false });
    text = 72 ∷ 73 ∷ [];
    colors = None;
  } ∷ [];
} ∷ []

-- a character in upright red
abbrev pub red : ℕ → Option Cell
red character = Some (record { ch = character; style = record { colour = colour.Red; italic = false; underline = false } })
