-- Two timelines in one field: each channel gets its own.
use Rattle.std.proofs.Common.{◌≡◌, ℕ, zero, suc, ◌+◌, ◌-◌, ◌<◌, Bool, true, false, Option, Some, None, refl, sym, ap, ◌∙◌, subst, arith}
use Rattle.std.specs.Prelude.{if◌then◌else◌}
use Rattle.std.specs.Option.{option_or}
use Rattle.line21_codes.specs.declared.channels.FieldNumber.{FieldNumber}
use Rattle.line21_codes.specs.declared.channels.DataChannel.{DataChannel}
use Rattle.line21_codes.specs.declared.channels.DataChannel.TheVariants.{One, Two}
use Rattle.line21_codes.specs.declared.codes.Code.{Code}
use Rattle.line21_codes.specs.declared.codes.Code.TheVariants.{Null, Text, Xds, Control}
use Rattle.line21_codes.specs.Reading.{code_of}
use Rattle.line21_screen.specs.Channels.{ChannelState}
use Rattle.line21_screen.specs.Fields.{FieldState, after_code, after_text, on_channel}
use Rattle.dual_fields.specs.Own.{is_same, own_unit, reaches}
use Rattle.lanes.specs.Timeline.{Timeline, over}
use Rattle.line21_author.specs.declared.unit.Unit.{Unit}
use Rattle.line21_shown.specs.Reading.{after_unit, field_acts}
use Rattle.dual_fields.specs.Sharing.{AreFor, AreShared, EachGetsOwn, IsFor, SharedAreOwn, is_text}

-- the channel is selected, and no extended data are under way
pub record IsOn (c : DataChannel) (s : FieldState) : Type 0 where
  pub selected : s.selected ≡ c
  pub plain : s.xds ≡ false

on_text : (c selected : DataChannel) (change : ChannelState → ChannelState) (s : FieldState) → IsOn c s → IsOn c (on_channel selected change s)
on_text c One change s on = record { selected = on.selected; plain = on.plain }
on_text c Two change s on = record { selected = on.selected; plain = on.plain }

on_text_plain : (c : DataChannel) (xds : Bool) (change : ChannelState → ChannelState) (s : FieldState) → IsOn c s
    → IsOn c (if xds then s else on_channel s.selected change s)
on_text_plain c true change s on = on
on_text_plain c false change s on = on_text c s.selected change s on

-- a control code of the channel selects it
on_control : (f : FieldNumber) (c : DataChannel) (code : Code) (s : FieldState) → IsFor c code → is_text code ≡ false → IsOn c (after_code f code s)
on_control f c Null s is none = absurd is
on_control f c (Text first second) s is none = cc
on_control f c (Xds first second) s is none = absurd is
on_control f c (Control true control) s is none = record { selected = is; plain = refl }
on_control f c (Control false control) s is none = record { selected = is; plain = refl }

-- and its codes leave it selected
on_code : (f : FieldNumber) (c : DataChannel) (code : Code) (s : FieldState) → IsFor c code → IsOn c s → IsOn c (after_code f code s)
on_code f c Null s is on = absurd is
on_code f c (Text first second) s is on = on_text_plain c s.xds (after_text first second) s on
on_code f c (Xds first second) s is on = absurd is
on_code f c (Control second control) s is on = on_control f c (Control second control) s is refl

same_self : (c : DataChannel) → is_same c c ≡ true
same_self One = refl
same_self Two = refl

-- text of the selected channel reaches it, and so do its control codes
pub reaches_own : (c : DataChannel) (code : Code) (s : FieldState) → IsFor c code → (is_text code ≡ true → IsOn c s) → reaches c s code ≡ true
reaches_own c Null s is on = absurd is
reaches_own c (Text first second) s is on =
    let o : IsOn c s = on refl in rw (o.selected, o.plain) (same_self c)
reaches_own c (Xds first second) s is on = absurd is
reaches_own c (Control second control) s is on = rw is (same_self c)

-- and another channel isn't reached
pub passes_other : (c d : DataChannel) (code : Code) (s : FieldState) → is_same c d ≡ false → IsFor d code → (is_text code ≡ true → IsOn d s) → reaches c s code ≡ false
passes_other c d Null s other is on = refl
passes_other c d (Text first second) s other is on =
    let o : IsOn d s = on refl in rw (o.selected, o.plain) other
passes_other c d (Xds first second) s other is on = absurd is
passes_other c d (Control second control) s other is on = rw is other

-- a field of a timeline of which another is a part
module _ (f : FieldNumber) (t : Timeline) (c : DataChannel) (own : Timeline) (are : AreFor c own) where
  -- what begins leaves the channel selected, where all of it is the channel's own
  on_next : (n : ℕ) (u : Option Unit) → t n ≡ u → own n ≡ u → IsOn c (field_acts f t n) → IsOn c (field_acts f t (suc n))
  on_next n None at own_at on = subst (IsOn c) (sym (ap (λ u. after_unit f u (field_acts f t n)) at)) on
  on_next n (Some unit) at own_at on =
      subst (IsOn c) (sym (ap (λ u. after_unit f u (field_acts f t n)) at))
      (on_code f c (code_of unit.pair) (field_acts f t n) (are n unit own_at) on)

  on_all : (k at n : ℕ) → suc at + k ≡ n → IsOn c (field_acts f t (suc at)) → ((m : ℕ) → at < m → m < n → t m ≡ own m) → IsOn c (field_acts f t n)
  on_all zero at n is on same = let e : suc at ≡ n = omega arith in subst (λ m. IsOn c (field_acts f t m)) e on
  on_all (suc k) at n is on same =
      let now : t (suc at) ≡ own (suc at) = same (suc at) (omega arith) (omega arith) in
      on_all k (suc at) n (omega arith) (on_next (suc at) (own (suc at)) now refl on) (λ m above below. same m (omega arith) below)

  -- from a control code of its own on
  pub on_from : (at n : ℕ) (unit : Unit) → at < n → t at ≡ Some unit → own at ≡ Some unit → is_text (code_of unit.pair) ≡ false
      → ((m : ℕ) → at < m → m < n → t m ≡ own m) → IsOn c (field_acts f t n)
  on_from at n unit low here own_at control same =
      on_all (n - suc at) at n (omega arith)
      (subst (IsOn c) (sym (ap (λ u. after_unit f u (field_acts f t at)) here)) (on_control f c (code_of unit.pair) (field_acts f t at) (are at unit own_at) control))
      same

or_nothing : {T : Type 0} (u : Option T) → option_or u None ≡ u
or_nothing None = refl
or_nothing (Some x) = refl

module _ (f : FieldNumber) (one two : Timeline) (are : AreShared one two) where
  abbrev t : Timeline
  t = over one two

  -- where one of them has nothing, the other stands alone
  one_alone : (m : ℕ) → two m ≡ None → t m ≡ one m
  one_alone m none = ap (option_or (one m)) none ∙ or_nothing (one m)

  two_alone : (m : ℕ) → one m ≡ None → t m ≡ two m
  two_alone m none = ap (λ u. option_or u (two m)) none

  apart_too : (n : ℕ) (unit : Unit) → two n ≡ Some unit → one n ≡ None
  apart_too n unit is = by_one (one n) refl
    where
      by_one : (u : Option Unit) → one n ≡ u → one n ≡ None
      by_one None at = at
      by_one (Some other) at = let none : two n ≡ None = are.apart n other at in let wrong : Some unit ≡ None = sym is ∙ none in absurd (cc)

  on_one : (n : ℕ) (unit : Unit) → one n ≡ Some unit → is_text (code_of unit.pair) ≡ true → IsOn One (field_acts f t n)
  on_one n unit is text =
      let led = are.led_first n unit is text in
      on_from f t One one are.first led.at n led.unit led.before (one_alone led.at (are.apart led.at led.unit led.begins) ∙ led.begins) led.begins led.control
      (λ m above below. one_alone m (led.alone m above below))

  on_two : (n : ℕ) (unit : Unit) → two n ≡ Some unit → is_text (code_of unit.pair) ≡ true → IsOn Two (field_acts f t n)
  on_two n unit is text =
      let led = are.led_second n unit is text in
      on_from f t Two two are.second led.at n led.unit led.before (two_alone led.at (apart_too led.at led.unit led.begins) ∙ led.begins) led.begins led.control
      (λ m above below. two_alone m (led.alone m above below))

  taken : (c : DataChannel) (s : FieldState) (u : Option Unit) (unit : Unit) → u ≡ Some unit → reaches c s (code_of unit.pair) ≡ true → own_unit c s u ≡ Some unit
  taken c s u unit is reached = rw (is, reached) refl

  passed : (c : DataChannel) (s : FieldState) (u : Option Unit) (unit : Unit) → u ≡ Some unit → reaches c s (code_of unit.pair) ≡ false → own_unit c s u ≡ None
  passed c s u unit is reached = rw (is, reached) refl

  none_of : (c : DataChannel) (s : FieldState) (u : Option Unit) → u ≡ None → own_unit c s u ≡ None
  none_of c s u is = rw is refl

  by_both : (n : ℕ) (u v : Option Unit) → one n ≡ u → two n ≡ v → EachGetsOwn f one two n
  by_both n (Some unit) v first second =
      let none : two n ≡ None = are.apart n unit first in
      let at : t n ≡ Some unit = one_alone n none ∙ first in
      record {
        first = taken One (field_acts f t n) (t n) unit at (reaches_own One (code_of unit.pair) (field_acts f t n) (are.first n unit first) (on_one n unit first)) ∙ sym first;
        second = passed Two (field_acts f t n) (t n) unit at
            (passes_other Two One (code_of unit.pair) (field_acts f t n) refl (are.first n unit first) (on_one n unit first)) ∙ sym none;
      }
  by_both n None (Some unit) first second =
      let at : t n ≡ Some unit = two_alone n first ∙ second in
      record {
        first = passed One (field_acts f t n) (t n) unit at
            (passes_other One Two (code_of unit.pair) (field_acts f t n) refl (are.second n unit second) (on_two n unit second)) ∙ sym first;
        second = taken Two (field_acts f t n) (t n) unit at (reaches_own Two (code_of unit.pair) (field_acts f t n) (are.second n unit second) (on_two n unit second)) ∙ sym second;
      }
  by_both n None None first second =
      let at : t n ≡ None = two_alone n first ∙ second in
      record {
        first = none_of One (field_acts f t n) (t n) at ∙ sym first;
        second = none_of Two (field_acts f t n) (t n) at ∙ sym second;
      }

pub shared_own : SharedAreOwn
shared_own f one two are n = by_both f one two are n (one n) (two n) refl refl
