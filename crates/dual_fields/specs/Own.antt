-- Between crates: the program's answer stands on none of these definitions.
-- What of a field's units reaches a channel: control codes that name it, and text where it is selected and no extended data are under
-- way (CTA-608-E; 47 CFR 79.101).
use Rattle.std.specs.Prelude.{◌≡◌, ℕ, Bool, true, false, not, ◌&&◌, if◌then◌else◌, Option, Some, None}
use Rattle.line21_codes.specs.declared.channels.FieldNumber.{FieldNumber}
use Rattle.line21_codes.specs.declared.channels.DataChannel.{DataChannel}
use Rattle.line21_codes.specs.declared.channels.DataChannel.TheVariants as data_channels
use Rattle.line21_codes.specs.declared.codes.Code.{Code}
use Rattle.line21_codes.specs.declared.codes.Code.TheVariants.{Null, Text, Xds, Control}
use Rattle.line21_codes.specs.Channels.{numbered_channel}
use Rattle.line21_codes.specs.Reading.{code_of}
use Rattle.line21_screen.specs.Fields.{FieldState, channel}
use Rattle.line21_shown.specs.Reading.{field_acts, acts}
use Rattle.lanes.specs.Timeline.{Timeline}
use Rattle.line21_author.specs.declared.unit.Unit.{Unit}

-- both are one channel
abbrev pub is_same : DataChannel → DataChannel → Bool
is_same data_channels.One data_channels.One = true
is_same data_channels.One data_channels.Two = false
is_same data_channels.Two data_channels.One = false
is_same data_channels.Two data_channels.Two = true

-- a code reaches a channel of a field in this state
abbrev pub reaches : DataChannel → FieldState → Code → Bool
reaches of_channel s Null = false
reaches of_channel s (Text first second) = not s.xds && is_same of_channel s.selected
reaches of_channel s (Xds first second) = false
reaches of_channel s (Control second control) = is_same of_channel (numbered_channel second)

-- what begins, if it reaches the channel
abbrev pub own_unit : DataChannel → FieldState → Option Unit → Option Unit
own_unit of_channel s None = None
own_unit of_channel s (Some unit) = if reaches of_channel s (code_of unit.pair) then Some unit else None

-- the units of a field that reach a channel
abbrev pub own_of : FieldNumber → DataChannel → Timeline → Timeline
own_of in_field of_channel timeline n = own_unit of_channel (field_acts in_field timeline n) (timeline n)

-- a channel of a field has what its own units do
abbrev pub ChannelsAreOwn : Type 0
ChannelsAreOwn = (in_field : FieldNumber) (timeline : Timeline) (of_channel : DataChannel) (n : ℕ)
    → channel of_channel (field_acts in_field timeline n) ≡ acts (own_of in_field of_channel timeline) n
