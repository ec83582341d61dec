-- Between crates: the program's answer stands on none of these definitions.
-- Two timelines in one field: when each channel gets just its own.
use Rattle.std.specs.Prelude.{◌≡◌, ⊤, ℕ, ◌<◌, Bool, true, false, Some, None}
use Rattle.line21_codes.specs.declared.channels.FieldNumber.{FieldNumber}
use Rattle.line21_codes.specs.declared.channels.DataChannel.{DataChannel}
use Rattle.line21_codes.specs.declared.channels.DataChannel.TheVariants as data_channels
use Rattle.line21_codes.specs.declared.codes.Code.{Code}
use Rattle.line21_codes.specs.declared.codes.Code.TheVariants.{Null, Text, Xds, Control}
use Rattle.line21_codes.specs.Channels.{numbered_channel}
use Rattle.line21_codes.specs.Reading.{code_of}
use Rattle.dual_fields.specs.Own.{own_of}
use Rattle.lanes.specs.Timeline.{Timeline, over}
use Rattle.line21_author.specs.declared.unit.Unit.{Unit}

-- a code of captions on a data channel
abbrev pub IsFor : DataChannel → Code → Type 0
IsFor of_channel Null = ⊥
IsFor of_channel (Text first second) = ⊤
IsFor of_channel (Xds first second) = ⊥
IsFor of_channel (Control second control) = numbered_channel second ≡ of_channel

-- a pair of text, which names no channel
abbrev pub is_text : Code → Bool
is_text Null = false
is_text (Text first second) = true
is_text (Xds first second) = false
is_text (Control second control) = false

-- all that begins on a timeline is so
abbrev pub AreFor : DataChannel → Timeline → Type 0
AreFor of_channel timeline = (n : ℕ) (unit : Unit) → timeline n ≡ Some unit → IsFor of_channel (code_of unit.pair)

-- a control code of the timeline stands before a slot, and from it on up to the slot the other timeline has nothing
pub record IsLedTo (own other : Timeline) (n : ℕ) : Type 0 where
  pub at : ℕ
  pub before : at < n
  pub unit : Unit
  pub begins : own at ≡ Some unit
  pub control : is_text (code_of unit.pair) ≡ false
  pub alone : (m : ℕ) → at < m → m < n → other m ≡ None

-- each text pair is led to so
abbrev pub IsLed : Timeline → Timeline → Type 0
IsLed own other = (n : ℕ) (unit : Unit) → own n ≡ Some unit → is_text (code_of unit.pair) ≡ true → IsLedTo own other n

-- both keep out of each other's slots, each is for its own channel, and text of each is led to
pub record AreShared (one two : Timeline) : Type 0 where
  pub apart : (n : ℕ) (unit : Unit) → one n ≡ Some unit → two n ≡ None
  pub first : AreFor data_channels.One one
  pub second : AreFor data_channels.Two two
  pub led_first : IsLed one two
  pub led_second : IsLed two one

-- each channel gets its own timeline
pub record EachGetsOwn (in_field : FieldNumber) (one two : Timeline) (n : ℕ) : Type 0 where
  pub first : own_of in_field data_channels.One (over one two) n ≡ one n
  pub second : own_of in_field data_channels.Two (over one two) n ≡ two n

-- so each channel gets its own, whatever the other is sent
abbrev pub SharedAreOwn : Type 0
SharedAreOwn = (in_field : FieldNumber) (one two : Timeline) → AreShared one two → (n : ℕ) → EachGetsOwn in_field one two n
