-- Believed in part: the program's answer stands on some of these definitions.
-- The caption channels of line 21: CC1 and CC2 are data channels 1 and 2 of field 1, CC3 and CC4 are field 2's (CTA-608-E;
-- 47 CFR 79.101).
use Rattle.std.specs.Prelude.{ℕ, Bool, true, false, List, codes}
use Rattle.line21_codes.specs.declared.channels.Chan.{Chan}
use Rattle.line21_codes.specs.declared.channels.Chan.TheVariants.{Cc1, Cc2, Cc3, Cc4}
use Rattle.line21_codes.specs.declared.channels.FieldNumber.{FieldNumber}
use Rattle.line21_codes.specs.declared.channels.FieldNumber.TheVariants as fields
use Rattle.line21_codes.specs.declared.channels.DataChannel.{DataChannel}
use Rattle.line21_codes.specs.declared.channels.DataChannel.TheVariants as data_channels

-- the field that carries the channel
abbrev pub field_of_channel : Chan → FieldNumber
field_of_channel Cc1 = fields.One
field_of_channel Cc2 = fields.One
field_of_channel Cc3 = fields.Two
field_of_channel Cc4 = fields.Two

-- the data channel of its field that the channel is
abbrev pub data_channel_of : Chan → DataChannel
data_channel_of Cc1 = data_channels.One
data_channel_of Cc2 = data_channels.Two
data_channel_of Cc3 = data_channels.One
data_channel_of Cc4 = data_channels.Two

-- the channel's name
abbrev pub channel_name : Chan → List ℕ
channel_name Cc1 = codes "CC1"
channel_name Cc2 = codes "CC2"
channel_name Cc3 = codes "CC3"
channel_name Cc4 = codes "CC4"

-- field 2 where this says so, or else field 1
abbrev pub numbered_field : Bool → FieldNumber
numbered_field false = fields.One
numbered_field true = fields.Two

-- data channel 2 where this says so, or else data channel 1
abbrev pub numbered_channel : Bool → DataChannel
numbered_channel false = data_channels.One
numbered_channel true = data_channels.Two
