-- A cue's first unit that comes again while the cue is under way changes nothing.
use Rattle.std.proofs.Common.{◌≡◌, ℕ, zero, suc, ◌+◌, ◌-◌, ◌<◌, ◌≤◌, ◌||◌, max, Bool, true, false, Option, Some, None, refl, sym, ap, ◌∙◌, subst, arith}
use Rattle.std.specs.Prelude.{if◌then◌else◌, ◌==◌}
use Rattle.std.specs.Option.{option_or}
use Rattle.std.proofs.Math.Path.{fun_ext}
use Rattle.line21_codes.specs.declared.codes.Code.{Code}
use Rattle.line21_codes.specs.declared.codes.Code.TheVariants.{Null, Text, Xds, Control}
use Rattle.line21_codes.specs.declared.codes.Control.{Control as ControlCode}
use Rattle.line21_codes.specs.declared.codes.Control.TheVariants.{Rcl, Bs, Der, Ru, Fon, Rdc, Tr, Rtd, Edm, Cr, Enm, Eoc, Tab, MidRow, Preamble, Special, Extended, Skipped}
use Rattle.line21_codes.specs.declared.styles.Cell.{Cell}
use Rattle.line21_codes.specs.declared.styles.Style.{Style}
use Rattle.line21_codes.specs.BasicCharacters.{basic_of}
use Rattle.line21_codes.specs.SpecialCharacters.{special_of}
use Rattle.line21_codes.specs.ExtendedCharacters.{extended_of}
use Rattle.line21_codes.specs.Reading.{code_of}
use Rattle.line21_screen.specs.declared.modes.Mode.{Mode}
use Rattle.line21_screen.specs.declared.modes.Mode.TheVariants.{Off, PopOn, PaintOn, RollUp}
use Rattle.line21_screen.specs.Channels.{ChannelState, takes_captions}
use Rattle.line21_screen.specs.Codes.{IsPossibleCode}
use Rattle.line21_screen.specs.Controls.{acted, acts_always, after_control, rolled_up}
use Rattle.line21_screen.specs.Editing.{addressed, backspaced, carriage_return, extended, printed, special}
use Rattle.line21_screen.specs.Fields.{after_character, after_text}
use Rattle.line21_screen.specs.Grid.{Grid}
use Rattle.line21_screen.specs.Pens.{PenState}
use Rattle.line21_screen.specs.Windows.{IsWithin, in_window, moved}
use Rattle.line21_screen.proofs.CodeLemmas.{code_of-possible}
use Rattle.lanes.specs.Timeline.{Timeline, over}
use Rattle.line21_author.specs.declared.unit.Unit.{Unit}
use Rattle.line21_shown.specs.Doing.{does}
use Rattle.line21_shown.specs.Reading.{acts, does_unit}
use Rattle.dual_fields.specs.Resuming.{IsResumed, ResumesChangeNothing, keeps, keeps_mode, opened, opens}
use Rattle.line21_screen.proofs.WindowLemmas.{IsKept, Keeps, Kept, control_keeps, text_keeps}

-- captions of the mode are under way
record IsUnder (mode : Mode) (s : ChannelState) : Type 0 where
  mode_is : s.mode ≡ mode
  captions : s.text ≡ false

-- two states have the same mode, and text mode alike
record AreAlike (x s : ChannelState) : Type 0 where
  mode_is : x.mode ≡ s.mode
  text_is : x.text ≡ s.text

under : (mode : Mode) (x s : ChannelState) → AreAlike x s → IsUnder mode s → IsUnder mode x
under mode x s alike is = record { mode_is = alike.mode_is ∙ is.mode_is; captions = alike.text_is ∙ is.captions }

self : (s : ChannelState) → AreAlike s s
self s = record { mode_is = refl; text_is = refl }

chosen : (b : Bool) (x y s : ChannelState) → AreAlike x s → AreAlike y s → AreAlike (if b then x else y) s
chosen true x y s ax ay = ax
chosen false x y s ax ay = ay

like : (x y s : ChannelState) → AreAlike x y → AreAlike y s → AreAlike x s
like x y s a b = record { mode_is = a.mode_is ∙ b.mode_is; text_is = a.text_is ∙ b.text_is }

backspaced_alike : (s : ChannelState) → AreAlike (backspaced s) s
backspaced_alike s = chosen (s.pen.col == 0) s _ s (self s) (record { mode_is = refl; text_is = refl })

printed_alike : (ch : ℕ) (s : ChannelState) → AreAlike (printed ch s) s
printed_alike ch s = record { mode_is = refl; text_is = refl }

special_alike : (ch : Option ℕ) (s : ChannelState) → AreAlike (special ch s) s
special_alike (Some ch) s = record { mode_is = refl; text_is = refl }
special_alike None s = record { mode_is = refl; text_is = refl }

extended_alike : (ch : Option ℕ) (s : ChannelState) → AreAlike (extended ch s) s
extended_alike (Some ch) s = like (printed ch (backspaced s)) (backspaced s) s (printed_alike ch (backspaced s)) (backspaced_alike s)
extended_alike None s = self s

returned_alike : (m : Mode) (s : ChannelState) → AreAlike (carriage_return m s) s
returned_alike (RollUp rows) s = record { mode_is = refl; text_is = refl }
returned_alike Off s = self s
returned_alike PopOn s = self s
returned_alike PaintOn s = self s

addressed_alike : (m : Mode) (row col : ℕ) (style : Style) (s : ChannelState) → AreAlike (addressed m row col style s) s
addressed_alike (RollUp rows) row col style s = record { mode_is = refl; text_is = refl }
addressed_alike Off row col style s = record { mode_is = refl; text_is = refl }
addressed_alike PopOn row col style s = record { mode_is = refl; text_is = refl }
addressed_alike PaintOn row col style s = record { mode_is = refl; text_is = refl }

acted_alike : (control : ControlCode) (s : ChannelState) → keeps control ≡ true → AreAlike (acted control s) s
acted_alike Rcl s is = cc
acted_alike Rdc s is = cc
acted_alike (Ru rows) s is = cc
acted_alike Tr s is = cc
acted_alike Rtd s is = cc
acted_alike Eoc s is = cc
acted_alike Enm s is = record { mode_is = refl; text_is = refl }
acted_alike Edm s is = record { mode_is = refl; text_is = refl }
acted_alike Bs s is = backspaced_alike s
acted_alike Der s is = record { mode_is = refl; text_is = refl }
acted_alike (Extended set byte) s is = extended_alike (extended_of set byte) s
acted_alike (Special byte) s is = special_alike (special_of byte) s
acted_alike (MidRow colour underline) s is = record { mode_is = refl; text_is = refl }
acted_alike Fon s is = record { mode_is = refl; text_is = refl }
acted_alike (Tab columns) s is = record { mode_is = refl; text_is = refl }
acted_alike (Preamble row col style) s is = addressed_alike s.mode row col style s
acted_alike Cr s is = returned_alike s.mode s
acted_alike Skipped s is = self s

character_alike : (ch : Option ℕ) (s : ChannelState) → AreAlike (after_character ch s) s
character_alike (Some ch) s = chosen (takes_captions s) (printed ch s) s s (printed_alike ch s) (self s)
character_alike None s = self s

-- after such codes the mode is as it was
does_alike : (code : Code) (s : ChannelState) → keeps_mode code ≡ true → AreAlike (does code s) s
does_alike Null s is = self s
does_alike (Text first second) s is =
    like (after_text first second s) (after_character (basic_of first) s) s
    (character_alike (basic_of second) (after_character (basic_of first) s)) (character_alike (basic_of first) s)
does_alike (Xds first second) s is = self s
does_alike (Control second control) s is =
    chosen (acts_always control || takes_captions s) (acted control s) s s (acted_alike control s is) (self s)

-- a cue's first code begins its mode
opened_under : (control : ControlCode) (mode : Mode) (s : ChannelState) → opened control ≡ Some mode → IsUnder mode (after_control control s)
opened_under Rcl mode s is = let it : PopOn ≡ mode = cc in record { mode_is = it; captions = refl }
opened_under Rdc mode s is = let it : PaintOn ≡ mode = cc in record { mode_is = it; captions = refl }
opened_under (Ru rows) mode s is = let it : RollUp rows ≡ mode = cc in subst (λ m. IsUnder m (after_control (Ru rows) s)) it (by_mode s.mode s)
  where
    by_mode : (m : Mode) (s : ChannelState) → IsUnder (RollUp rows) (rolled_up m rows s)
    by_mode (RollUp earlier) s = record { mode_is = refl; captions = refl }
    by_mode Off s = record { mode_is = refl; captions = refl }
    by_mode PopOn s = record { mode_is = refl; captions = refl }
    by_mode PaintOn s = record { mode_is = refl; captions = refl }
opened_under Tr mode s is = cc
opened_under Rtd mode s is = cc
opened_under Eoc mode s is = cc
opened_under Enm mode s is = cc
opened_under Edm mode s is = cc
opened_under Bs mode s is = cc
opened_under Der mode s is = cc
opened_under (Extended set byte) mode s is = cc
opened_under (Special byte) mode s is = cc
opened_under (MidRow colour underline) mode s is = cc
opened_under Fon mode s is = cc
opened_under (Tab columns) mode s is = cc
opened_under (Preamble row col style) mode s is = cc
opened_under Cr mode s is = cc
opened_under Skipped mode s is = cc

opens_under : (code : Code) (mode : Mode) (s : ChannelState) → opens code ≡ Some mode → IsUnder mode (does code s)
opens_under Null mode s is = cc
opens_under (Text first second) mode s is = cc
opens_under (Xds first second) mode s is = cc
opens_under (Control second control) mode s is = opened_under control mode s is

-- a window that moves to its own place is as it was
window_still : (b : Bool) (x z : Option Cell) → x ≡ z → (b ≡ false → z ≡ None) → (if b then x else None) ≡ z
window_still true x z same none = same
window_still false x z same none = sym (none refl)

moved_still : (g : Grid) (rows base : ℕ) → IsWithin g rows base → moved g rows base base ≡ g
moved_still g rows base within =
    fun_ext (λ r. fun_ext (λ c.
    let e : r + base - base ≡ r = omega arith in
    window_still (in_window rows base r) (g (r + base - base) c) (g r c) (ap (λ n. g n c) e) (λ outside. within r c outside)))

-- a channel of its parts
abbrev state : Grid → Grid → Mode → ℕ → Bool → PenState → ChannelState
state d h m b t p = record { displayed = d; hidden = h; mode = m; base = b; text = t; pen = p }

-- a roll-up code that comes again
rolled_again : (d h : Grid) (b rows : ℕ) (row col : ℕ) (style : Style) → row ≡ b → rows ≤ b → IsWithin d rows b
    → after_control (Ru rows) (state d h (RollUp rows) b false (record { row = row; col = col; style = style })) ≡ state d h (RollUp rows) b false (record { row = row; col = col; style = style })
rolled_again d h b rows row col style on room within =
    let same : max b rows ≡ b = omega arith in
    rw (same, moved_still d rows b within) (ap (λ r. state d h (RollUp rows) b false (record { row = r; col = col; style = style })) (sym on))

-- where its mode is under way, a cue's first code changes nothing
opened_again : (control : ControlCode) (mode : Mode) (s : ChannelState) → opened control ≡ Some mode → IsUnder mode s → IsKept s → after_control control s ≡ s
opened_again Rcl mode s is under kept =
    let it : mode ≡ PopOn = cc in
    ap (λ m. state s.displayed s.hidden m s.base false s.pen) (sym (under.mode_is ∙ it)) ∙ ap (λ t. state s.displayed s.hidden s.mode s.base t s.pen) (sym under.captions)
opened_again Rdc mode s is under kept =
    let it : mode ≡ PaintOn = cc in
    ap (λ m. state s.displayed s.hidden m s.base false s.pen) (sym (under.mode_is ∙ it)) ∙ ap (λ t. state s.displayed s.hidden s.mode s.base t s.pen) (sym under.captions)
opened_again (Ru rows) mode s is under kept =
    let it : mode ≡ RollUp rows = cc in
    let rolls : s.mode ≡ RollUp rows = under.mode_is ∙ it in
    let keeps : Keeps rows s = subst (λ m. Kept m s) rolls kept in
    let parts : s ≡ state s.displayed s.hidden (RollUp rows) s.base false s.pen =
    ap (λ m. state s.displayed s.hidden m s.base s.text s.pen) rolls ∙ ap (λ t. state s.displayed s.hidden (RollUp rows) s.base t s.pen) under.captions in
    ap (after_control (Ru rows)) parts
    ∙ rolled_again s.displayed s.hidden s.base rows s.pen.row s.pen.col s.pen.style keeps.on_base keeps.room keeps.within
    ∙ sym parts
opened_again Tr mode s is under kept = cc
opened_again Rtd mode s is under kept = cc
opened_again Eoc mode s is under kept = cc
opened_again Enm mode s is under kept = cc
opened_again Edm mode s is under kept = cc
opened_again Bs mode s is under kept = cc
opened_again Der mode s is under kept = cc
opened_again (Extended set byte) mode s is under kept = cc
opened_again (Special byte) mode s is under kept = cc
opened_again (MidRow colour underline) mode s is under kept = cc
opened_again Fon mode s is under kept = cc
opened_again (Tab columns) mode s is under kept = cc
opened_again (Preamble row col style) mode s is under kept = cc
opened_again Cr mode s is under kept = cc
opened_again Skipped mode s is under kept = cc

opens_again : (code : Code) (mode : Mode) (s : ChannelState) → opens code ≡ Some mode → IsUnder mode s → IsKept s → does code s ≡ s
opens_again Null mode s is under kept = refl
opens_again (Text first second) mode s is under kept = cc
opens_again (Xds first second) mode s is under kept = refl
opens_again (Control second control) mode s is under kept = opened_again control mode s is under kept

-- what roll-up captions keep holds at every slot
code_kept : (code : Code) (s : ChannelState) → IsPossibleCode code → IsKept s → IsKept (does code s)
code_kept Null s possible kept = kept
code_kept (Text first second) s possible kept = text_keeps first second s kept
code_kept (Xds first second) s possible kept = kept
code_kept (Control second control) s possible kept = control_keeps control s possible kept

unit_kept : (u : Option Unit) (s : ChannelState) → IsKept s → IsKept (does_unit u s)
unit_kept None s kept = kept
unit_kept (Some unit) s kept = code_kept (code_of unit.pair) s (code_of-possible unit.pair) kept

acts_kept : (t : Timeline) (n : ℕ) → IsKept (acts t n)
acts_kept t zero = tt
acts_kept t (suc n) = unit_kept (t n) (acts t n) (acts_kept t n)

module _ (t : Timeline) (r : ℕ) (unit : Unit) (is : IsResumed t r unit) where
  under_next : (n : ℕ) (u : Option Unit) → t n ≡ u → is.at < n → n < r → IsUnder is.mode (acts t n) → IsUnder is.mode (acts t (suc n))
  under_next n None at above below on = subst (IsUnder is.mode) (sym (ap (λ u. does_unit u (acts t n)) at)) on
  under_next n (Some other) at above below on =
      subst (IsUnder is.mode) (sym (ap (λ u. does_unit u (acts t n)) at))
      (under is.mode (does (code_of other.pair) (acts t n)) (acts t n) (does_alike (code_of other.pair) (acts t n) (is.kept n other above below at)) on)

  under_at : (k n : ℕ) → suc is.at + k ≡ n → n ≤ r → IsUnder is.mode (acts t n)
  under_at zero n e low =
      let here : suc is.at ≡ n = omega arith in
      subst (λ m. IsUnder is.mode (acts t m)) here
      (subst (IsUnder is.mode) (sym (ap (λ u. does_unit u (acts t is.at)) is.begins)) (opens_under (code_of unit.pair) is.mode (acts t is.at) is.opens_it))
  under_at (suc k) zero e low = absurd (omega arith)
  under_at (suc k) (suc n) e low = under_next n (t n) refl (omega arith) (omega arith) (under_at k n (omega arith) (omega arith))

  -- at the slot in which it comes again it changes nothing
  pub idle : does (code_of unit.pair) (acts t r) ≡ acts t r
  idle = opens_again (code_of unit.pair) is.mode (acts t r) is.opens_it (under_at (r - suc is.at) r (omega (arith, is.before)) (omega arith)) (acts_kept t r)

or_nothing : (u : Option Unit) → option_or u None ≡ u
or_nothing None = refl
or_nothing (Some unit) = refl

pub resumes_idle : ResumesChangeNothing
resumes_idle t resumes are zero = refl
resumes_idle t resumes are (suc n) = by_resume (resumes_idle t resumes are n) (resumes n) refl
  where
    by_resume : acts (over t resumes) n ≡ acts t n → (u : Option Unit) → resumes n ≡ u → does_unit (option_or (t n) (resumes n)) (acts (over t resumes) n) ≡ does_unit (t n) (acts t n)
    by_resume before None at = ap (λ u. does_unit (option_or (t n) u) (acts (over t resumes) n)) at ∙ ap (λ u. does_unit u (acts (over t resumes) n)) (or_nothing (t n)) ∙ ap (does_unit (t n)) before
    by_resume before (Some unit) at =
        let resumed = are n unit at in
        ap (λ u. does_unit (option_or u (resumes n)) (acts (over t resumes) n)) resumed.nothing ∙ ap (λ u. does_unit u (acts (over t resumes) n)) at
        ∙ ap (does (code_of unit.pair)) before ∙ idle t n unit resumed ∙ sym (ap (λ u. does_unit u (acts t n)) resumed.nothing)
