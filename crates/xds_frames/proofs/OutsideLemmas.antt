-- Extended data beside captions.
use Rattle.std.proofs.Common.{◌≡◌, ℕ, zero, suc, ◌+◌, ◌-◌, ◌<◌, true, false, Option, Some, None, refl, sym, ap, ◌∙◌, subst, arith}
use Rattle.std.specs.Option.{option_or}
use Rattle.line21_codes.specs.declared.channels.DataChannel.TheVariants.{One, Two}
use Rattle.line21_codes.specs.declared.channels.FieldNumber.TheVariants as fields
use Rattle.line21_codes.specs.declared.codes.Code.{Code}
use Rattle.line21_codes.specs.declared.codes.Code.TheVariants.{Null, Text, Xds, Control}
use Rattle.line21_codes.specs.declared.pairs.Pair.{Pair}
use Rattle.line21_codes.specs.ControlPairs.{is_control}
use Rattle.line21_codes.specs.Reading.{code_of}
use Rattle.line21_author.specs.declared.unit.Unit.{Unit}
use Rattle.line21_codes.specs.declared.channels.DataChannel.{DataChannel}
use Rattle.line21_screen.specs.Channels.{new_channel}
use Rattle.line21_screen.specs.Fields.{FieldState, after_code, channel}
use Rattle.lanes.specs.Timeline.{Timeline, over, repeat_of}
use Rattle.dual_fields.specs.Reading.{acts, does_unit}
use Rattle.xds_frames.specs.Outside.{AreOutside, DataChangeNothing, IsData, begins}
use Rattle.dual_fields.specs.Own.{own_of, reaches}
use Rattle.dual_fields.specs.Reading.{after_unit, field_acts}
use Rattle.dual_fields.specs.Sharing.{is_text}
use Rattle.dual_fields.specs.Reading.{IsMarked}
use Rattle.dual_fields.proofs.OwnLemmas.{channels_own}
use Rattle.dual_fields.proofs.ReadingLemmas.{fields_read}
use Rattle.dual_fields.proofs.SharingLemmas.{IsOn, on_from, passes_other, reaches_own}

-- text in extended data reaches no channel, nor does a pair of theirs
passed_data : (c : DataChannel) (code : Code) (s : FieldState) → IsData code → (is_text code ≡ true → s.xds ≡ true) → reaches c s code ≡ false
passed_data c Null s is within = refl
passed_data c (Text first second) s is within = rw (within refl) refl
passed_data c (Xds first second) s is within = refl
passed_data c (Control second control) s is within = absurd is

-- a pair that begins them, and text within them
begun_data : (code : Code) (s : FieldState) → begins code → (after_code fields.Two code s).xds ≡ true
begun_data Null s is = absurd is
begun_data (Text first second) s is = absurd is
begun_data (Xds first second) s is = is
begun_data (Control second control) s is = absurd is

text_data : (code : Code) (s : FieldState) → is_text code ≡ true → s.xds ≡ true → (after_code fields.Two code s).xds ≡ true
text_data Null s is on = cc
text_data (Text first second) s is on = rw on refl
text_data (Xds first second) s is on = cc
text_data (Control second control) s is on = cc

or_nothing : (u : Option Unit) → option_or u None ≡ u
or_nothing None = refl
or_nothing (Some x) = refl

module _ (captions data_of : Timeline) (are : AreOutside captions data_of) where
  abbrev t : Timeline
  t = over captions data_of

  captions_alone : (m : ℕ) → data_of m ≡ None → t m ≡ captions m
  captions_alone m none = ap (option_or (captions m)) none ∙ or_nothing (captions m)

  data_alone : (m : ℕ) → captions m ≡ None → t m ≡ data_of m
  data_alone m none = ap (λ u. option_or u (data_of m)) none

  no_captions : (n : ℕ) (unit : Unit) → data_of n ≡ Some unit → captions n ≡ None
  no_captions n unit is = by_caption (captions n) refl
    where
      by_caption : (u : Option Unit) → captions n ≡ u → captions n ≡ None
      by_caption None at = at
      by_caption (Some other) at = let none : data_of n ≡ None = are.apart n other at in let wrong : Some unit ≡ None = sym is ∙ none in absurd (cc)

  -- extended data stay under way
  data_next : (m : ℕ) (u : Option Unit) → data_of m ≡ u → captions m ≡ None → ((other : Unit) → u ≡ Some other → is_text (code_of other.pair) ≡ true)
      → (field_acts fields.Two t m).xds ≡ true → (field_acts fields.Two t (suc m)).xds ≡ true
  data_next m None is none texts on =
      ap (λ u. (after_unit fields.Two u (field_acts fields.Two t m)).xds) (data_alone m none ∙ is) ∙ on
  data_next m (Some other) is none texts on =
      ap (λ u. (after_unit fields.Two u (field_acts fields.Two t m)).xds) (data_alone m none ∙ is)
      ∙ text_data (code_of other.pair) (field_acts fields.Two t m) (texts other refl) on

  data_on : (k at n : ℕ) → suc at + k ≡ n → (field_acts fields.Two t (suc at)).xds ≡ true → ((m : ℕ) → at < m → m < n → captions m ≡ None)
      → ((m : ℕ) (other : Unit) → at < m → m < n → data_of m ≡ Some other → is_text (code_of other.pair) ≡ true) → (field_acts fields.Two t n).xds ≡ true
  data_on zero at n is on alone texts = let e : suc at ≡ n = omega arith in subst (λ m. (field_acts fields.Two t m).xds ≡ true) e on
  data_on (suc k) at n is on alone texts =
      data_on k (suc at) n (omega arith)
      (data_next (suc at) (data_of (suc at)) refl (alone (suc at) (omega arith) (omega arith)) (λ other it. texts (suc at) other (omega arith) (omega arith) it) on)
      (λ m above below. alone m (omega arith) below) (λ m other above below. texts m other (omega arith) below)

  on_data : (n : ℕ) (unit : Unit) → data_of n ≡ Some unit → is_text (code_of unit.pair) ≡ true → (field_acts fields.Two t n).xds ≡ true
  on_data n unit is text =
      let w = are.within n unit is text in
      data_on (n - suc w.at) w.at n (omega (arith, w.before))
      (ap (λ u. (after_unit fields.Two u (field_acts fields.Two t w.at)).xds) (data_alone w.at (no_captions w.at w.unit w.there) ∙ w.there)
      ∙ begun_data (code_of w.unit.pair) (field_acts fields.Two t w.at) w.begins_it)
      w.alone w.texts

  on_captions : (n : ℕ) (unit : Unit) → captions n ≡ Some unit → is_text (code_of unit.pair) ≡ true → IsOn One (field_acts fields.Two t n)
  on_captions n unit is text =
      let led = are.led n unit is text in
      on_from fields.Two t One captions are.own led.at n led.unit led.before (captions_alone led.at (are.apart led.at led.unit led.begins) ∙ led.begins) led.begins led.control
      (λ m above below. captions_alone m (led.alone m above below))

  own_is : (n : ℕ) (u v : Option Unit) → captions n ≡ u → data_of n ≡ v → own_of fields.Two One t n ≡ captions n
  own_is n (Some unit) v first second =
      let at : t n ≡ Some unit = captions_alone n (are.apart n unit first) ∙ first in
      let reached = reaches_own One (code_of unit.pair) (field_acts fields.Two t n) (are.own n unit first) (on_captions n unit first) in
      rw (at, reached) (sym first)
  own_is n None (Some unit) first second =
      let at : t n ≡ Some unit = data_alone n first ∙ second in
      let passed = passed_data One (code_of unit.pair) (field_acts fields.Two t n) (are.data_is n unit second) (on_data n unit second) in
      rw (at, passed) (sym first)
  own_is n None None first second =
      let at : t n ≡ None = data_alone n first ∙ second in rw at (sym first)

  repeat_single : (n : ℕ) (unit : Unit) (pair : Pair) → unit.doubled ≡ false → repeat_of (Some unit) ≡ Some pair → ⊥
  repeat_single n unit pair once is = let wrong : None ≡ Some pair = rw once at is in cc

  marked_at : (n : ℕ) (unit : Unit) → t n ≡ Some unit → (u : Option Unit) → captions n ≡ u → is_control unit.pair ≡ unit.doubled
  marked_at n unit is None at =
      let there : data_of n ≡ Some unit = sym (data_alone n at) ∙ is in
      are.plain_pair n unit there ∙ sym (are.single n unit there)
  marked_at n unit is (Some other) at =
      let it : Some other ≡ Some unit = sym (ap (λ u. option_or u (data_of n)) at) ∙ is in
      let same : other ≡ unit = cc in
      are.marked.marked n unit (at ∙ ap Some same)

  spaced_at : (n : ℕ) (pair : Pair) → repeat_of (t n) ≡ Some pair → (u : Option Unit) → captions n ≡ u → (v : Option Unit) → data_of n ≡ v → t (suc n) ≡ None
  spaced_at n pair due (Some unit) at v second =
      let due_now : repeat_of (captions n) ≡ Some pair = ap repeat_of (at ∙ sym (ap (λ u. option_or u (data_of n)) at)) ∙ due in
      ap (λ u. option_or u (data_of (suc n))) (are.marked.spaced n pair due_now) ∙ are.behind n pair due_now
  spaced_at n pair due None at (Some unit) second =
      absurd (repeat_single n unit pair (are.single n unit second) (ap repeat_of (sym (data_alone n at ∙ second)) ∙ due))
  spaced_at n pair due None at None second =
      let wrong : None ≡ Some pair = ap repeat_of (sym (data_alone n at ∙ second)) ∙ due in absurd (cc)

  marked : IsMarked t
  marked = record {
    marked = λ n unit is. marked_at n unit is (captions n) refl;
    spaced = λ n pair due. spaced_at n pair due (captions n) refl (data_of n) refl;
  }

  acts_same : (one two : Timeline) → ((n : ℕ) → one n ≡ two n) → (n : ℕ) → acts one n ≡ acts two n
  acts_same one two same zero = refl
  acts_same one two same (suc n) = ap (λ x. does_unit x (acts one n)) (same n) ∙ ap (does_unit (two n)) (acts_same one two same n)

  nothing_changes : (n : ℕ) → channel One (field_acts fields.Two t n) ≡ acts captions n
  nothing_changes n = channels_own fields.Two t One n ∙ acts_same (own_of fields.Two One t) captions (λ m. own_is m (captions m) (data_of m) refl refl) n

  -- nothing reaches the other channel
  none_is : (n : ℕ) (u v : Option Unit) → captions n ≡ u → data_of n ≡ v → own_of fields.Two Two t n ≡ None
  none_is n (Some unit) v first second =
      let at : t n ≡ Some unit = captions_alone n (are.apart n unit first) ∙ first in
      let passed = passes_other Two One (code_of unit.pair) (field_acts fields.Two t n) refl (are.own n unit first) (on_captions n unit first) in
      rw (at, passed) refl
  none_is n None (Some unit) first second =
      let at : t n ≡ Some unit = data_alone n first ∙ second in
      let passed = passed_data Two (code_of unit.pair) (field_acts fields.Two t n) (are.data_is n unit second) (on_data n unit second) in
      rw (at, passed) refl
  none_is n None None first second =
      let at : t n ≡ None = data_alone n first ∙ second in rw at refl

  acts_none : (one : Timeline) → ((n : ℕ) → one n ≡ None) → (n : ℕ) → acts one n ≡ new_channel
  acts_none one none zero = refl
  acts_none one none (suc n) = ap (λ u. does_unit u (acts one n)) (none n) ∙ acts_none one none n

  other_idle : (n : ℕ) → channel Two (field_acts fields.Two t n) ≡ new_channel
  other_idle n = channels_own fields.Two t Two n ∙ acts_none (own_of fields.Two Two t) (λ m. none_is m (captions m) (data_of m) refl refl) n

pub data_nothing : DataChangeNothing
data_nothing captions data_of are n = record {
  first = ap (channel One) (fields_read fields.Two (over captions data_of) (marked captions data_of are) n) ∙ nothing_changes captions data_of are n;
  second = ap (channel Two) (fields_read fields.Two (over captions data_of) (marked captions data_of are) n) ∙ other_idle captions data_of are n;
}

-- their pairs are marked as the captions' are
pub data_marked : (captions data_of : Timeline) → AreOutside captions data_of → IsMarked (over captions data_of)
data_marked captions data_of are = marked captions data_of are
