-- A field whose control pairs are doubled is read as its units, one after another; captions of data channel 1 are read as theirs.
use Rattle.std.proofs.Common.{◌≡◌, ℕ, zero, suc, Bool, true, false, List, ◌∷◌, Option, Some, None, option_map, unwrap_or, refl, sym, ap, ◌∙◌, subst}
use Rattle.std.specs.Int.Count.{ones}
use Rattle.std.specs.Option.{option_or}
use Rattle.line21_codes.specs.declared.channels.FieldNumber.{FieldNumber}
use Rattle.line21_codes.specs.declared.codes.Code.{Code}
use Rattle.line21_codes.specs.declared.codes.Code.TheVariants.{Null, Text, Xds, Control}
use Rattle.line21_codes.specs.declared.pairs.Pair.{Pair}
use Rattle.line21_codes.specs.ControlPairs.{is_control}
use Rattle.line21_codes.specs.Reading.{code_of}
use Rattle.line21_codes.specs.Repeats.{Blocks, none, doubled, single}
use Rattle.line21_codes.proofs.RepeatLemmas.{blocks-first, blocks-second}
use Rattle.line21_codes.specs.NullPairs.{null_pair}
use Rattle.frame_scheduler.specs.Unit.{Unit}
use Rattle.line21_screen.specs.Channels.{ChannelState}
use Rattle.line21_screen.specs.Fields.{after_code}
use Rattle.line21_screen.specs.Meaning.{after}
use Rattle.line21_screen.proofs.MeaningLemmas.{after-none, after-acts, after-ignored}
use Rattle.frame_scheduler.specs.Timeline.{Timeline, repeat_at, repeat_of, slot}
use Rattle.frame_scheduler.proofs.ColumnLemmas.{null_plain}
use Rattle.line21_shown.specs.Doing.{does}
use Rattle.line21_shown.specs.Reading.{ColumnsAreRead, FieldsAreRead, IsCaptioned, IsForFirst, IsMarked, acts, after_unit, does_unit, field_acts, first_alone, pairs_before}

-- the null pair is read as null
pub null_code : code_of null_pair ≡ Null
unfolding code_of ones
null_code = refl

-- a code of data channel 1 does to its field what it does to the channel
pub code_step : (f : FieldNumber) (code : Code) (s : ChannelState) → IsForFirst code → after_code f code (first_alone s) ≡ first_alone (does code s)
code_step f Null s is = refl
code_step f (Text first second) s is = refl
code_step f (Xds first second) s is = absurd is
code_step f (Control true control) s is = cc
code_step f (Control false control) s is = refl

-- the pairs end with a control pair that is to be repeated
record IsDue (pairs : List Pair) (pair : Pair) : Type 0 where
  before : List Pair
  is : pairs ≡ pair ∷ before
  control : is_control pair ≡ true
  blocks : Blocks before

-- the pairs of the frames below n are read, and stand in blocks up to a pair that is to be repeated
record IsRead (f : FieldNumber) (t : Timeline) (n : ℕ) : Type 0 where
  state : after f (pairs_before (slot t) n) ≡ field_acts f t n
  blocks : repeat_at t n ≡ None → Blocks (pairs_before (slot t) n)
  due : (pair : Pair) → repeat_at t n ≡ Some pair → IsDue (pairs_before (slot t) n) pair

-- the pair of a slot
pub slot_is : (t : Timeline) (n : ℕ) (r : Option Pair) (u : Option Unit) → repeat_at t n ≡ r → t n ≡ u
    → slot t n ≡ unwrap_or (option_or r (option_map (λ (unit : Unit). unit.pair) u)) null_pair
slot_is t n r u due at = rw (due, at) refl

-- nothing begins where a repeat is due
nothing_begins : (t : Timeline) → IsMarked t → (n : ℕ) (pair : Pair) → repeat_at t n ≡ Some pair → t n ≡ None
nothing_begins t is zero pair due = cc
nothing_begins t is (suc n) pair due = is.spaced n pair due

module _ (f : FieldNumber) (t : Timeline) (is : IsMarked t) (n : ℕ) (read : IsRead f t n) where
  -- a repeat does nothing
  repeated : (pair : Pair) → repeat_at t n ≡ Some pair → IsRead f t (suc n)
  repeated pair due =
      let w = read.due pair due in
      let nothing : t n ≡ None = nothing_begins t is n pair due in
      let at : slot t n ≡ pair = slot_is t n (Some pair) None due nothing in
      let pairs : pairs_before (slot t) (suc n) ≡ pair ∷ pair ∷ w.before = rw (at, w.is) refl in
      let ignored : after f (pair ∷ pair ∷ w.before) ≡ after f (pair ∷ w.before) =
      after-ignored f (pair ∷ w.before) pair (blocks-second w.before pair w.blocks w.control) in
      let same : field_acts f t (suc n) ≡ field_acts f t n = rw nothing refl in
      record {
        state = ap (after f) pairs ∙ ignored ∙ sym (ap (after f) w.is) ∙ read.state ∙ sym same;
        blocks = λ later. subst Blocks (sym pairs) (doubled pair w.before w.control w.blocks);
        due = λ other later. let wrong : None ≡ Some other = rw nothing at later in cc;
      }

  -- an empty slot does nothing
  empty : repeat_at t n ≡ None → t n ≡ None → IsRead f t (suc n)
  empty due nothing =
      let at : slot t n ≡ null_pair = slot_is t n None None due nothing in
      let pairs : pairs_before (slot t) (suc n) ≡ null_pair ∷ pairs_before (slot t) n = rw at refl in
      let blocks = read.blocks due in
      let read_null : after f (null_pair ∷ pairs_before (slot t) n) ≡ after_code f (code_of null_pair) (after f (pairs_before (slot t) n)) =
      after-acts f (pairs_before (slot t) n) null_pair (blocks-first (pairs_before (slot t) n) null_pair blocks) in
      let same : field_acts f t (suc n) ≡ field_acts f t n = rw nothing refl in
      record {
        state = ap (after f) pairs ∙ read_null ∙ ap (λ code. after_code f code (after f (pairs_before (slot t) n))) null_code ∙ read.state ∙ sym same;
        blocks = λ later. subst Blocks (sym pairs) (single null_pair (pairs_before (slot t) n) null_plain blocks);
        due = λ other later. let wrong : None ≡ Some other = rw nothing at later in cc;
      }

  -- a unit acts
  begun : (unit : Unit) → repeat_at t n ≡ None → t n ≡ Some unit → IsRead f t (suc n)
  begun unit due begins =
      let at : slot t n ≡ unit.pair = slot_is t n None (Some unit) due begins in
      let pairs : pairs_before (slot t) (suc n) ≡ unit.pair ∷ pairs_before (slot t) n = rw at refl in
      let blocks = read.blocks due in
      let reads : after f (unit.pair ∷ pairs_before (slot t) n) ≡ after_code f (code_of unit.pair) (after f (pairs_before (slot t) n)) =
      after-acts f (pairs_before (slot t) n) unit.pair (blocks-first (pairs_before (slot t) n) unit.pair blocks) in
      let same : field_acts f t (suc n) ≡ after_code f (code_of unit.pair) (field_acts f t n) = rw begins refl in
      let state : after f (pairs_before (slot t) (suc n)) ≡ field_acts f t (suc n) =
      ap (after f) pairs ∙ reads ∙ ap (after_code f (code_of unit.pair)) read.state ∙ sym same in
      by_doubled unit.doubled refl state pairs blocks
    where
      by_doubled : (b : Bool) → unit.doubled ≡ b → after f (pairs_before (slot t) (suc n)) ≡ field_acts f t (suc n)
          → pairs_before (slot t) (suc n) ≡ unit.pair ∷ pairs_before (slot t) n → Blocks (pairs_before (slot t) n) → IsRead f t (suc n)
      by_doubled true twice state pairs blocks =
          let next : repeat_at t (suc n) ≡ Some unit.pair = ap repeat_of begins ∙ rw twice refl in
          record {
            state = state;
            blocks = λ later. let wrong : Some unit.pair ≡ None = sym next ∙ later in cc;
            due = λ other later.
                let other_is : Some unit.pair ≡ Some other = sym next ∙ later in
                let it : unit.pair ≡ other = cc in
                record {
                  before = pairs_before (slot t) n;
                  is = pairs ∙ ap (λ pair. pair ∷ pairs_before (slot t) n) it;
                  control = ap is_control (sym it) ∙ is.marked n unit begins ∙ twice;
                  blocks = blocks;
                };
          }
      by_doubled false once state pairs blocks =
          let next : repeat_at t (suc n) ≡ None = ap repeat_of begins ∙ rw once refl in
          record {
            state = state;
            blocks = λ later. subst Blocks (sym pairs) (single unit.pair (pairs_before (slot t) n) (is.marked n unit begins ∙ once) blocks);
            due = λ other later. let wrong : None ≡ Some other = sym next ∙ later in cc;
          }

-- one more frame
read_next : (f : FieldNumber) (t : Timeline) → IsMarked t → (n : ℕ) → IsRead f t n → (r : Option Pair) → repeat_at t n ≡ r → (u : Option Unit) → t n ≡ u → IsRead f t (suc n)
read_next f t is n read (Some pair) due u at = repeated f t is n read pair due
read_next f t is n read None due None at = empty f t is n read due at
read_next f t is n read None due (Some unit) at = begun f t is n read unit due at

-- all frames below n
read_all : (f : FieldNumber) (t : Timeline) → IsMarked t → (n : ℕ) → IsRead f t n
read_all f t is zero = record { state = sym (after-none f _ _ refl refl); blocks = λ due. none; due = λ pair due. cc }
read_all f t is (suc n) = read_next f t is n (read_all f t is n) (repeat_at t n) refl (t n) refl

-- the pairs of the slots mean what the units do
pub fields_read : FieldsAreRead
fields_read f t is n = (read_all f t is n).state

-- captions of data channel 1
are_marked : (t : Timeline) → IsCaptioned t → IsMarked t
are_marked t is = record { marked = is.marked; spaced = is.spaced }

pub none_begins : (t : Timeline) → IsCaptioned t → (n : ℕ) (pair : Pair) → repeat_at t n ≡ Some pair → t n ≡ None
none_begins t is = nothing_begins t (are_marked t is)

-- they leave the field's other channel as it was
first_acts : (f : FieldNumber) (t : Timeline) → IsCaptioned t → (n : ℕ) → field_acts f t n ≡ first_alone (acts t n)
first_acts f t is zero = refl
first_acts f t is (suc n) = by_unit (t n) refl (first_acts f t is n)
  where
    by_unit : (u : Option Unit) → t n ≡ u → field_acts f t n ≡ first_alone (acts t n)
        → after_unit f (t n) (field_acts f t n) ≡ first_alone (does_unit (t n) (acts t n))
    by_unit None at before = rw at before
    by_unit (Some unit) at before =
        rw at (ap (after_code f (code_of unit.pair)) before ∙ code_step f (code_of unit.pair) (acts t n) (is.first n unit at))

pub columns_read : ColumnsAreRead
columns_read f t is n = fields_read f t (are_marked t is) n ∙ first_acts f t is n
