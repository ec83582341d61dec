-- In roll-up captions no displayed cell stands outside of the window: each code keeps that.
use Rattle.std.proofs.Common.{◌≡◌, ℕ, ◌+◌, ◌-◌, ◌≤◌, ◌==◌, ◌&&◌, ◌||◌, nat_le, nat_lt, max, min, Bool, true, false, if◌then◌else◌, List, [], ◌∷◌, Option, Some, None, refl, sym, ◌∙◌, subst, arith}
use Rattle.std.proofs.lemmas.Bool.Decides.{nat_tests}
use Rattle.line21_codes.specs.declared.channels.FieldNumber.{FieldNumber}
use Rattle.line21_codes.specs.declared.channels.DataChannel.{DataChannel}
use Rattle.line21_codes.specs.declared.channels.DataChannel.TheVariants.{One, Two}
use Rattle.line21_codes.specs.Channels.{numbered_channel}
use Rattle.line21_codes.specs.declared.codes.Code.{Code}
use Rattle.line21_codes.specs.declared.codes.Code.TheVariants.{Null, Text, Xds, Control}
use Rattle.line21_codes.specs.declared.codes.Control.{Control as ControlCode}
use Rattle.line21_codes.specs.declared.codes.Control.TheVariants.{Rcl, Bs, Der, Ru, Fon, Rdc, Tr, Rtd, Edm, Cr, Enm, Eoc, Tab, MidRow, Preamble, Special, Extended, Skipped}
use Rattle.line21_codes.specs.declared.styles.Cell.{Cell}
use Rattle.line21_codes.specs.declared.styles.Style.{Style}
use Rattle.line21_codes.specs.declared.pairs.Pair.{Pair}
use Rattle.line21_codes.specs.Reading.{code_of}
use Rattle.line21_codes.specs.Repeats.{is_ignored}
use Rattle.line21_codes.specs.BasicCharacters.{basic_of}
use Rattle.line21_codes.specs.SpecialCharacters.{special_of}
use Rattle.line21_codes.specs.ExtendedCharacters.{extended_of}
use Rattle.line21_screen.specs.declared.modes.Mode.{Mode}
use Rattle.line21_screen.specs.declared.modes.Mode.TheVariants.{Off, PopOn, PaintOn, RollUp}
use Rattle.line21_screen.specs.Grid.{Grid, empty_grid, with_cell, without_cells}
use Rattle.line21_screen.specs.Windows.{in_window, moved, rolled, IsWithin}
use Rattle.line21_screen.specs.Pens.{PenState, at_column, with_style, advanced, print_column, tabbed, mid_row_style}
use Rattle.line21_screen.specs.Channels.{ChannelState, takes_captions}
use Rattle.line21_screen.specs.Editing.{edited, with_pen, printed, special, backspaced, extended, row_deleted, carriage_return, addressed}
use Rattle.line21_screen.specs.Controls.{acts_always, rolled_up, acted, after_control, IsPossible}
use Rattle.line21_screen.specs.Codes.{IsPossibleCode}
use Rattle.line21_screen.specs.Fields.{FieldState, channel, on_channel, after_character, after_text, after_code}
use Rattle.line21_screen.specs.Meaning.{after}
use Rattle.line21_screen.specs.Scrolling.{IsWindowed, IsInWindow}
use Rattle.line21_screen.proofs.CodeLemmas.{code_of-possible}
use Rattle.line21_screen.proofs.MeaningLemmas.{after-acts, after-ignored}

-- the rows that moved are the window's
moved_within : (g : Grid) (rows old new : ℕ) → IsWithin (moved g rows old new) rows new
moved_within g rows old new r c outside = rw outside refl

-- the lower rows of a window that end one row higher are rows of the window
rolled_window : (rows base r : ℕ) → in_window rows base r ≡ false → in_window (rows - 1) (base - 1) r ≡ false
rolled_window rows base r outside = grind (arith, nat_tests)

-- a window that rolled up
rolled_within : (g : Grid) (rows base : ℕ) → IsWithin (rolled g rows base) rows base
rolled_within g rows base r c outside = rw (rolled_window rows base r outside) refl

-- the base row is one of the window
not_base : (rows base r : ℕ) → 1 ≤ base → 1 ≤ rows → in_window rows base r ≡ false → (r == base) ≡ false
not_base rows base r from some outside = grind (arith, nat_tests)

-- a cell in the base row
put_within : (g : Grid) (rows base row col : ℕ) (cell : Option Cell) → 1 ≤ base → 1 ≤ rows → row ≡ base → IsWithin g rows base → IsWithin (with_cell g row col cell) rows base
put_within g rows base row col cell from some on_base within r c outside =
    rw (on_base, not_base rows base r from some outside) (within r c outside)

-- fewer cells in a row
without_at : (b : Bool) (x : Option Cell) → x ≡ None → (if b then None else x) ≡ None
without_at true x none = refl
without_at false x none = none

without_within : (g : Grid) (rows base row from to : ℕ) → IsWithin g rows base → IsWithin (without_cells g row from to) rows base
without_within g rows base row from to within r c outside = without_at (r == row && nat_le from c && nat_lt c to) (g r c) (within r c outside)

-- what roll-up captions keep: the pen stands on the base row, which is a row of the window
pub record Keeps (rows : ℕ) (s : ChannelState) : Type 0 where
  pub within : IsWithin s.displayed rows s.base
  pub on_base : s.pen.row ≡ s.base
  pub room : rows ≤ s.base
  pub some : 1 ≤ rows

-- nothing is to be kept in another mode
abbrev pub Kept : Mode → ChannelState → Type 0
Kept (RollUp rows) s = Keeps rows s
Kept Off s = Unit {0}
Kept PopOn s = Unit {0}
Kept PaintOn s = Unit {0}

-- in the channel's own mode
abbrev pub IsKept : ChannelState → Type 0
IsKept s = Kept s.mode s

-- a state of its parts
abbrev state : Grid → Grid → Mode → ℕ → Bool → PenState → ChannelState
state d h m b t p = record { displayed = d; hidden = h; mode = m; base = b; text = t; pen = p }

-- a cell in the pen's row
put_parts : (d h : Grid) (m : Mode) (b : ℕ) (t : Bool) (p : PenState) (col : ℕ) (cell : Option Cell) (next : PenState) → next.row ≡ p.row → Kept m (state d h m b t p) → Kept m (with_pen next (edited (λ g. with_cell g p.row col cell) (state d h m b t p)))
put_parts d h (RollUp rows) b t p col cell next same k = record {
  within = put_within d rows b p.row col cell (omega (arith, k.room, k.some)) k.some k.on_base k.within;
  on_base = same ∙ k.on_base;
  room = k.room;
  some = k.some;
}
put_parts d h Off b t p col cell next same k = tt
put_parts d h PopOn b t p col cell next same k = tt
put_parts d h PaintOn b t p col cell next same k = tt

put_keeps : (s : ChannelState) (col : ℕ) (cell : Option Cell) (next : PenState) → next.row ≡ s.pen.row → IsKept s → IsKept (with_pen next (edited (λ g. with_cell g s.pen.row col cell) s))
put_keeps s col cell next same k = put_parts s.displayed s.hidden s.mode s.base s.text s.pen col cell next same k

-- a character
printed_keeps : (ch : ℕ) (s : ChannelState) → IsKept s → IsKept (printed ch s)
printed_keeps ch s k = put_keeps s (print_column s.pen) (Some (record { ch = ch; style = s.pen.style })) (advanced s.pen) refl k

-- a choice of two states
chosen_keeps : (b : Bool) (x y : ChannelState) → IsKept x → IsKept y → IsKept (if b then x else y)
chosen_keeps true x y kx ky = kx
chosen_keeps false x y kx ky = ky

-- backspace
backspaced_keeps : (s : ChannelState) → IsKept s → IsKept (backspaced s)
backspaced_keeps s k =
    chosen_keeps (s.pen.col == 0) s (with_pen (at_column (s.pen.col - 1) s.pen) (edited (λ g. with_cell g s.pen.row (s.pen.col - 1) None) s))
    k (put_keeps s (s.pen.col - 1) None (at_column (s.pen.col - 1) s.pen) refl k)

-- an extended character
extended_keeps : (ch : Option ℕ) (s : ChannelState) → IsKept s → IsKept (extended ch s)
extended_keeps (Some ch) s k = printed_keeps ch (backspaced s) (backspaced_keeps s k)
extended_keeps None s k = k

-- a special character
special_keeps : (ch : Option ℕ) (s : ChannelState) → IsKept s → IsKept (special ch s)
special_keeps (Some ch) s k = printed_keeps ch s k
special_keeps None s k = put_keeps s (print_column s.pen) None (advanced s.pen) refl k

-- delete to end of row
deleted_parts : (d h : Grid) (m : Mode) (b : ℕ) (t : Bool) (p : PenState) → Kept m (state d h m b t p) → Kept m (row_deleted (state d h m b t p))
deleted_parts d h (RollUp rows) b t p k = record {
  within = without_within d rows b p.row p.col 32 k.within;
  on_base = k.on_base;
  room = k.room;
  some = k.some;
}
deleted_parts d h Off b t p k = tt
deleted_parts d h PopOn b t p k = tt
deleted_parts d h PaintOn b t p k = tt

-- another pen in the same row
pen_parts : (m : Mode) (s : ChannelState) (next : PenState) → next.row ≡ s.pen.row → Kept m s → Kept m (with_pen next s)
pen_parts (RollUp rows) s next same k = record { within = k.within; on_base = same ∙ k.on_base; room = k.room; some = k.some }
pen_parts Off s next same k = tt
pen_parts PopOn s next same k = tt
pen_parts PaintOn s next same k = tt

-- a tab offset stays in its row
same_row : (b : Bool) (x y pen : PenState) → x.row ≡ pen.row → y.row ≡ pen.row → (if b then x else y).row ≡ pen.row
same_row true x y pen kx ky = kx
same_row false x y pen kx ky = ky

tabbed-row : (columns : ℕ) (pen : PenState) → (tabbed columns pen).row ≡ pen.row
tabbed-row columns pen = same_row (pen.col == 32) pen (at_column (min (pen.col + columns) 31) pen) pen refl refl

-- text mode
text_parts : (m : Mode) (s : ChannelState) → Kept m s → Kept m (record s { text = true })
text_parts (RollUp rows) s k = record { within = k.within; on_base = k.on_base; room = k.room; some = k.some }
text_parts Off s k = tt
text_parts PopOn s k = tt
text_parts PaintOn s k = tt

-- the hidden memory is erased
hidden_parts : (m : Mode) (s : ChannelState) → Kept m s → Kept m (record s { hidden = empty_grid })
hidden_parts (RollUp rows) s k = record { within = k.within; on_base = k.on_base; room = k.room; some = k.some }
hidden_parts Off s k = tt
hidden_parts PopOn s k = tt
hidden_parts PaintOn s k = tt

-- the displayed memory is erased
displayed_parts : (m : Mode) (s : ChannelState) → Kept m s → Kept m (record s { displayed = empty_grid })
displayed_parts (RollUp rows) s k = record { within = λ r c outside. refl; on_base = k.on_base; room = k.room; some = k.some }
displayed_parts Off s k = tt
displayed_parts PopOn s k = tt
displayed_parts PaintOn s k = tt

-- a roll-up code
rolled_up_keeps : (m : Mode) (rows : ℕ) (s : ChannelState) → 2 ≤ rows → rows ≤ 4 → IsKept (rolled_up m rows s)
rolled_up_keeps (RollUp earlier) rows s from to = record {
  within = moved_within s.displayed rows s.base (max s.base rows);
  on_base = refl;
  room = omega arith;
  some = omega arith;
}
rolled_up_keeps Off rows s from to = record { within = λ r c outside. refl; on_base = refl; room = omega arith; some = omega arith }
rolled_up_keeps PopOn rows s from to = record { within = λ r c outside. refl; on_base = refl; room = omega arith; some = omega arith }
rolled_up_keeps PaintOn rows s from to = record { within = λ r c outside. refl; on_base = refl; room = omega arith; some = omega arith }

-- a carriage return
returned_parts : (d h : Grid) (m : Mode) (b : ℕ) (t : Bool) (p : PenState) → Kept m (state d h m b t p) → IsKept (carriage_return m (state d h m b t p))
returned_parts d h (RollUp rows) b t p k = record { within = rolled_within d rows b; on_base = refl; room = k.room; some = k.some }
returned_parts d h Off b t p k = tt
returned_parts d h PopOn b t p k = tt
returned_parts d h PaintOn b t p k = tt

-- a preamble
addressed_parts : (d h : Grid) (m : Mode) (b : ℕ) (t : Bool) (p : PenState) (row col : ℕ) (style : Style) → 1 ≤ row → Kept m (state d h m b t p) → IsKept (addressed m row col style (state d h m b t p))
addressed_parts d h (RollUp rows) b t p row col style from k = record {
  within = moved_within d rows b (max row rows);
  on_base = refl;
  room = omega arith;
  some = k.some;
}
addressed_parts d h Off b t p row col style from k = tt
addressed_parts d h PopOn b t p row col style from k = tt
addressed_parts d h PaintOn b t p row col style from k = tt

-- each code
acted_keeps : (control : ControlCode) (s : ChannelState) → IsPossible control → IsKept s → IsKept (acted control s)
acted_keeps Rcl s h k = tt
acted_keeps Rdc s h k = tt
acted_keeps (Ru rows) s h k = rolled_up_keeps s.mode rows s h.0 h.1
acted_keeps Tr s h k = text_parts s.mode s k
acted_keeps Rtd s h k = text_parts s.mode s k
acted_keeps Eoc s h k = tt
acted_keeps Enm s h k = hidden_parts s.mode s k
acted_keeps Edm s h k = displayed_parts s.mode s k
acted_keeps Bs s h k = backspaced_keeps s k
acted_keeps Der s h k = deleted_parts s.displayed s.hidden s.mode s.base s.text s.pen k
acted_keeps (Extended set byte) s h k = extended_keeps (extended_of set byte) s k
acted_keeps (Special byte) s h k = special_keeps (special_of byte) s k
acted_keeps (MidRow colour underline) s h k =
    let pen : PenState = with_style (mid_row_style colour underline s.pen.style) s.pen in
    printed_keeps 0x20 (with_pen pen s) (pen_parts s.mode s pen refl k)
acted_keeps Fon s h k = printed_keeps 0x20 s k
acted_keeps (Tab columns) s h k = pen_parts s.mode s (tabbed columns s.pen) (tabbed-row columns s.pen) k
acted_keeps (Preamble row col style) s h k = addressed_parts s.displayed s.hidden s.mode s.base s.text s.pen row col style h.0 k
acted_keeps Cr s h k = returned_parts s.displayed s.hidden s.mode s.base s.text s.pen k
acted_keeps Skipped s h k = k

-- a control code
pub control_keeps : (control : ControlCode) (s : ChannelState) → IsPossible control → IsKept s → IsKept (after_control control s)
control_keeps control s h k = chosen_keeps (acts_always control || takes_captions s) (acted control s) s (acted_keeps control s h k) k

-- a character of a text pair
character_keeps : (ch : Option ℕ) (s : ChannelState) → IsKept s → IsKept (after_character ch s)
character_keeps (Some ch) s k = chosen_keeps (takes_captions s) (printed ch s) s (printed_keeps ch s k) k
character_keeps None s k = k

-- a text pair
pub text_keeps : (first second : ℕ) (s : ChannelState) → IsKept s → IsKept (after_text first second s)
text_keeps first second s k = character_keeps (basic_of second) (after_character (basic_of first) s) (character_keeps (basic_of first) s k)

-- both data channels
abbrev BothKept : FieldState → Type 0
BothKept s = IsKept s.first × IsKept s.second

-- one of the channels changes
on_channel_keeps : (data_channel : DataChannel) (change : ChannelState → ChannelState) (s : FieldState) → ((x : ChannelState) → IsKept x → IsKept (change x)) → BothKept s → BothKept (on_channel data_channel change s)
on_channel_keeps One change s keeps k = (keeps s.first k.0, k.1)
on_channel_keeps Two change s keeps k = (k.0, keeps s.second k.1)

-- text, unless extended data are under way
field_text_keeps : (b : Bool) (x y : FieldState) → BothKept x → BothKept y → BothKept (if b then x else y)
field_text_keeps true x y kx ky = kx
field_text_keeps false x y kx ky = ky

-- each pair
code_keeps : (f : FieldNumber) (code : Code) (s : FieldState) → IsPossibleCode code → BothKept s → BothKept (after_code f code s)
code_keeps f Null s h k = k
code_keeps f (Text first second) s h k =
    field_text_keeps s.xds s (on_channel s.selected (after_text first second) s) k
    (on_channel_keeps s.selected (after_text first second) s (text_keeps first second) k)
code_keeps f (Xds first second) s h k = k
code_keeps f (Control second control) s h k =
    on_channel_keeps (numbered_channel second) (after_control control) (record s { selected = numbered_channel second; xds = false })
    (λ x kx. control_keeps control x h kx) k

-- a pair that may be a repeat
pair_keeps : (f : FieldNumber) (before : List Pair) (pair : Pair) (ignored : Bool) → is_ignored before pair ≡ ignored → BothKept (after f before) → BothKept (after f (pair ∷ before))
pair_keeps f before pair true is k = subst BothKept (sym (after-ignored f before pair is)) k
pair_keeps f before pair false is k =
    subst BothKept (sym (after-acts f before pair is)) (code_keeps f (code_of pair) (after f before) (code_of-possible pair) k)

-- a field that had no pair
new_keeps : (f : FieldNumber) → BothKept (after f [])
unfolding after
new_keeps f = (tt, tt)

-- every list of pairs
after_keeps : (f : FieldNumber) (pairs : List Pair) → BothKept (after f pairs)
after_keeps f [] = new_keeps f
after_keeps f (pair ∷ before) = pair_keeps f before pair (is_ignored before pair) refl (after_keeps f before)

-- what is kept shows that no cell stands outside of the window
windowed : (m : Mode) (s : ChannelState) → Kept m s → IsWindowed m s
windowed (RollUp rows) s k = k.within
windowed Off s k = tt
windowed PopOn s k = tt
windowed PaintOn s k = tt

-- in roll-up captions no displayed cell stands outside of the window
pub stays_in_window : (f : FieldNumber) (data_channel : DataChannel) (pairs : List Pair) → IsInWindow (channel data_channel (after f pairs))
stays_in_window f One pairs = windowed (after f pairs).first.mode (after f pairs).first (after_keeps f pairs).0
stays_in_window f Two pairs = windowed (after f pairs).second.mode (after f pairs).second (after_keeps f pairs).1
