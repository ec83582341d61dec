-- Believed: the program's answer stands on these definitions.
-- The state of a data channel (CTA-608-E and 47 CFR 79.101: displayed and non-displayed memory,
-- caption modes, text mode, base row, cursor).
use Rattle.std.specs.Prelude.{ℕ, ◌&&◌, not, Bool, true, false}
use Rattle.line21_screen.specs.declared.modes.Mode.{Mode}
use Rattle.line21_screen.specs.declared.modes.Mode.TheVariants.{Off, PopOn, PaintOn, RollUp}
use Rattle.line21_screen.specs.Grid.{Grid, empty_grid}
use Rattle.line21_screen.specs.Pens.{PenState, pen_at_row}

pub record ChannelState : Type 0 where
  pub displayed : Grid
  pub hidden : Grid
  pub mode : Mode
  pub base : ℕ
  pub text : Bool
  pub pen : PenState

-- a channel before its first code
abbrev pub new_channel : ChannelState
new_channel = record {
  displayed = empty_grid;
  hidden = empty_grid;
  mode = Off;
  base = 15;
  text = false;
  pen = pen_at_row 15;
}

-- the mode is one of captions
abbrev pub is_caption_mode : Mode → Bool
is_caption_mode Off = false
is_caption_mode PopOn = true
is_caption_mode PaintOn = true
is_caption_mode (RollUp rows) = true

-- characters and editing codes are for the captions: a mode was set, and no text mode is on
-- (that they are dropped before the first mode is this project's own choice)
abbrev pub takes_captions : ChannelState → Bool
takes_captions s = not s.text && is_caption_mode s.mode
