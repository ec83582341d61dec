-- Believed in part: the program's answer stands on some of these definitions.
-- What each control code does to its data channel (CTA-608-E and 47 CFR 79.101, control codes).
use Rattle.std.specs.Prelude.{ℕ, ◌||◌, ◌≤◌, max, Bool, true, false, if◌then◌else◌, ⊤}
use Rattle.line21_codes.specs.declared.codes.Control.{Control}
use Rattle.line21_codes.specs.declared.codes.Control.TheVariants.{Rcl, Bs, Der, Ru, Fon, Rdc, Tr, Rtd, Edm, Cr, Enm, Eoc, Tab, MidRow, Preamble, Special, Extended, Skipped}
use Rattle.line21_codes.specs.SpecialCharacters.{special_of}
use Rattle.line21_codes.specs.ExtendedCharacters.{extended_of}
use Rattle.line21_screen.specs.declared.modes.Mode.{Mode}
use Rattle.line21_screen.specs.declared.modes.Mode.TheVariants.{PopOn, PaintOn, RollUp}
use Rattle.line21_screen.specs.Grid.{empty_grid}
use Rattle.line21_screen.specs.Windows.{moved}
use Rattle.line21_screen.specs.Pens.{pen_at_row, in_row, with_style, tabbed, mid_row_style}
use Rattle.line21_screen.specs.Channels.{ChannelState, takes_captions}
use Rattle.line21_screen.specs.Editing.{with_pen, printed, special, backspaced, extended, row_deleted, carriage_return, addressed}

-- the codes that act in text mode too, and before the first mode
abbrev pub acts_always : Control → Bool
acts_always Rcl = true
acts_always Rdc = true
acts_always (Ru rows) = true
acts_always Tr = true
acts_always Rtd = true
acts_always Edm = true
acts_always Enm = true
acts_always Eoc = true
acts_always _ = false

-- RU2, RU3 and RU4 end text mode. From another mode both memories are erased, and the window ends
-- at row 15. From roll-up captions the number of rows changes: where they have no room above the
-- base row, it moves down, the rows and the pen go with it, and what stands above the window is
-- erased (for the change of the number, this project's own choice; below the window nothing stands)
abbrev pub rolled_up : Mode → ℕ → ChannelState → ChannelState
rolled_up (RollUp earlier) rows s = record s {
  displayed = moved s.displayed rows s.base (max s.base rows);
  mode = RollUp rows;
  base = max s.base rows;
  text = false;
  pen = in_row (max s.base rows) s.pen;
}
rolled_up _ rows s = record {
  displayed = empty_grid;
  hidden = empty_grid;
  mode = RollUp rows;
  base = 15;
  text = false;
  pen = pen_at_row 15;
}

-- one equation for each code
abbrev pub acted : Control → ChannelState → ChannelState
acted Rcl s = record s { mode = PopOn; text = false }
acted Rdc s = record s { mode = PaintOn; text = false }
acted (Ru rows) s = rolled_up s.mode rows s
acted Tr s = record s { text = true }
acted Rtd s = record s { text = true }
acted Eoc s = record s { displayed = s.hidden; hidden = s.displayed; mode = PopOn; text = false }
acted Enm s = record s { hidden = empty_grid }
acted Edm s = record s { displayed = empty_grid }
acted Bs s = backspaced s
acted Der s = row_deleted s
acted (Extended set byte) s = extended (extended_of set byte) s
acted (Special byte) s = special (special_of byte) s
acted (MidRow colour underline) s =
    printed 0x20 (with_pen (with_style (mid_row_style colour underline s.pen.style) s.pen) s)
acted Fon s = printed 0x20 s
acted (Tab columns) s = with_pen (tabbed columns s.pen) s
acted (Preamble row col style) s = addressed s.mode row col style s
acted Cr s = carriage_return s.mode s
acted Skipped s = s

-- a code acts where it always does, and else where its channel takes captions
abbrev pub after_control : Control → ChannelState → ChannelState
after_control control s =
    if acts_always control || takes_captions s then acted control s else s

-- a control code's numbers are those that pairs can say
abbrev pub IsPossible : Control → Type 0
IsPossible (Ru rows) = (2 ≤ rows) × (rows ≤ 4)
IsPossible (Tab columns) = columns ≤ 3
IsPossible (Preamble row col style) = (1 ≤ row) × (row ≤ 15) × (col ≤ 28)
IsPossible _ = ⊤
