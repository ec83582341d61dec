-- Between crates: the program's answer stands on none of these definitions.
-- Extended data in a field beside captions: they change nothing of what the captions' channel gets.
use Rattle.std.specs.Prelude.{◌≡◌, ⊤, ℕ, suc, ◌<◌, true, false, Some, None}
use Rattle.line21_codes.specs.declared.channels.DataChannel.TheVariants as data_channels
use Rattle.line21_codes.specs.declared.channels.FieldNumber.TheVariants as fields
use Rattle.line21_codes.specs.declared.codes.Code.{Code}
use Rattle.line21_codes.specs.declared.codes.Code.TheVariants.{Null, Text, Xds, Control}
use Rattle.line21_codes.specs.declared.pairs.Pair.{Pair}
use Rattle.line21_codes.specs.ControlPairs.{is_control}
use Rattle.line21_codes.specs.Reading.{code_of}
use Rattle.line21_author.specs.declared.unit.Unit.{Unit}
use Rattle.line21_screen.specs.Channels.{new_channel}
use Rattle.line21_screen.specs.Fields.{begins_xds, channel}
use Rattle.line21_screen.specs.Meaning.{after}
use Rattle.lanes.specs.Timeline.{Timeline, over, repeat_of, slot}
use Rattle.dual_fields.specs.Reading.{acts, pairs_before}
use Rattle.dual_fields.specs.Sharing.{AreFor, IsLed, is_text}
use Rattle.dual_fields.specs.Reading.{IsMarked}

-- a pair that begins or continues with extended data
abbrev pub begins : Code → Type 0
begins Null = ⊥
begins (Text first second) = ⊥
begins (Xds first second) = begins_xds fields.Two first ≡ true
begins (Control second control) = ⊥

-- a pair of extended data is none of captions
abbrev pub IsData : Code → Type 0
IsData Null = ⊥
IsData (Text first second) = ⊤
IsData (Xds first second) = ⊤
IsData (Control second control) = ⊥

-- extended data are under way: such a pair stands before, and from it on nothing but text of theirs
pub record IsWithinData (captions data_of : Timeline) (n : ℕ) : Type 0 where
  pub at : ℕ
  pub before : at < n
  pub unit : Unit
  pub there : data_of at ≡ Some unit
  pub begins_it : begins (code_of unit.pair)
  pub alone : (m : ℕ) → at < m → m < n → captions m ≡ None
  pub texts : (m : ℕ) (other : Unit) → at < m → m < n → data_of m ≡ Some other → is_text (code_of other.pair) ≡ true

pub record AreOutside (captions data_of : Timeline) : Type 0 where
  pub marked : IsMarked captions
  pub own : AreFor data_channels.One captions
  pub led : IsLed captions data_of
  pub apart : (n : ℕ) (unit : Unit) → captions n ≡ Some unit → data_of n ≡ None
  pub behind : (n : ℕ) (pair : Pair) → repeat_of (captions n) ≡ Some pair → data_of (suc n) ≡ None
  pub data_is : (n : ℕ) (unit : Unit) → data_of n ≡ Some unit → IsData (code_of unit.pair)
  pub single : (n : ℕ) (unit : Unit) → data_of n ≡ Some unit → unit.doubled ≡ false
  pub plain_pair : (n : ℕ) (unit : Unit) → data_of n ≡ Some unit → is_control unit.pair ≡ false
  pub within : (n : ℕ) (unit : Unit) → data_of n ≡ Some unit → is_text (code_of unit.pair) ≡ true → IsWithinData captions data_of n

-- the channel of the captions has what they alone give it, and the other channel nothing
pub record DataAreIdle (captions data_of : Timeline) (n : ℕ) : Type 0 where
  pub first : channel data_channels.One (after fields.Two (pairs_before (slot (over captions data_of)) n)) ≡ acts captions n
  pub second : channel data_channels.Two (after fields.Two (pairs_before (slot (over captions data_of)) n)) ≡ new_channel

abbrev pub DataChangeNothing : Type 0
DataChangeNothing = (captions data_of : Timeline) → AreOutside captions data_of → (n : ℕ) → DataAreIdle captions data_of n
