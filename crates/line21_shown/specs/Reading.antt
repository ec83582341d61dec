-- Between crates: the program's answer stands on none of these definitions.
-- How a receiver reads a field whose control pairs are doubled: each unit acts once, in the frame in which it begins
-- (CTA-608-E; 47 CFR 79.101, control codes are sent twice).
use Rattle.std.specs.Prelude.{◌≡◌, ⊤, ℕ, zero, suc, false, List, [], ◌∷◌, Option, Some, None}
use Rattle.line21_codes.specs.declared.channels.FieldNumber.{FieldNumber}
use Rattle.line21_codes.specs.declared.channels.DataChannel.TheVariants.{One}
use Rattle.line21_codes.specs.declared.codes.Code.{Code}
use Rattle.line21_codes.specs.declared.codes.Code.TheVariants.{Null, Text, Xds, Control}
use Rattle.line21_codes.specs.declared.pairs.Pair.{Pair}
use Rattle.line21_codes.specs.ControlPairs.{is_control}
use Rattle.line21_codes.specs.Reading.{code_of}
use Rattle.frame_scheduler.specs.Unit.{Unit}
use Rattle.line21_screen.specs.Channels.{ChannelState, new_channel}
use Rattle.line21_screen.specs.Fields.{FieldState, after_code, new_field}
use Rattle.line21_screen.specs.Meaning.{after}
use Rattle.frame_scheduler.specs.Timeline.{Timeline, repeat_of, slot}
use Rattle.line21_shown.specs.Doing.{does}

-- the pairs of the frames below n, the newest first
abbrev pub pairs_before : (ℕ → Pair) → ℕ → List Pair
pairs_before column zero = []
pairs_before column (suc n) = column n ∷ pairs_before column n

-- what a unit that begins does
abbrev pub does_unit : Option Unit → ChannelState → ChannelState
does_unit None s = s
does_unit (Some unit) s = does (code_of unit.pair) s

-- the channel's state before frame n: each unit has acted once, in the frame in which it begins
abbrev pub acts : Timeline → ℕ → ChannelState
acts timeline zero = new_channel
acts timeline (suc n) = does_unit (timeline n) (acts timeline n)

-- what a unit that begins does to its field, whatever channels and extended data share it
abbrev pub after_unit : FieldNumber → Option Unit → FieldState → FieldState
after_unit in_field None s = s
after_unit in_field (Some unit) s = after_code in_field (code_of unit.pair) s

-- the field's state before slot n: each unit has acted once
abbrev pub field_acts : FieldNumber → Timeline → ℕ → FieldState
field_acts in_field timeline zero = new_field
field_acts in_field timeline (suc n) = after_unit in_field (timeline n) (field_acts in_field timeline n)

-- exactly the control pairs of a timeline are doubled, and nothing begins in a repeat
pub record IsMarked (timeline : Timeline) : Type 0 where
  pub marked : (n : ℕ) (unit : Unit) → timeline n ≡ Some unit → is_control unit.pair ≡ unit.doubled
  pub spaced : (n : ℕ) (pair : Pair) → repeat_of (timeline n) ≡ Some pair → timeline (suc n) ≡ None

-- the pairs of such a timeline's slots mean what the units do, one after another
abbrev pub FieldsAreRead : Type 0
FieldsAreRead = (in_field : FieldNumber) (timeline : Timeline) → IsMarked timeline → (n : ℕ)
    → after in_field (pairs_before (slot timeline) n) ≡ field_acts in_field timeline n

-- the state of a field whose data channel 1 alone was written for
abbrev pub first_alone : ChannelState → FieldState
first_alone s = record { first = s; second = new_channel; selected = One; xds = false }

-- the code is one of captions in data channel 1
abbrev pub IsForFirst : Code → Type 0
IsForFirst Null = ⊤
IsForFirst (Text first second) = ⊤
IsForFirst (Xds first second) = ⊥
IsForFirst (Control second control) = second ≡ false

-- on a timeline of captions for data channel 1 exactly the control pairs are doubled, and nothing begins in a repeat
pub record IsCaptioned (timeline : Timeline) : Type 0 where
  pub marked : (n : ℕ) (unit : Unit) → timeline n ≡ Some unit → is_control unit.pair ≡ unit.doubled
  pub spaced : (n : ℕ) (pair : Pair) → repeat_of (timeline n) ≡ Some pair → timeline (suc n) ≡ None
  pub first : (n : ℕ) (unit : Unit) → timeline n ≡ Some unit → IsForFirst (code_of unit.pair)

-- the pairs of the slots mean what the units do, one after another, also between a pair and its repeat
abbrev pub ColumnsAreRead : Type 0
ColumnsAreRead = (in_field : FieldNumber) (timeline : Timeline) → IsCaptioned timeline → (n : ℕ)
    → after in_field (pairs_before (slot timeline) n) ≡ first_alone (acts timeline n)
