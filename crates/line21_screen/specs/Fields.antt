-- Believed: the program's answer stands on these definitions.
-- The state of a field of line 21, with its two data channels, and what each code does to it
-- (CTA-608-E and 47 CFR 79.101; extended data services stand in field 2).
use Rattle.std.specs.Prelude.{ℕ, nat_lt, Bool, false, if◌then◌else◌, Option, Some, None}
use Rattle.line21_codes.specs.declared.channels.FieldNumber.{FieldNumber}
use Rattle.line21_codes.specs.declared.channels.FieldNumber.TheVariants as fields
use Rattle.line21_codes.specs.declared.channels.DataChannel.{DataChannel}
use Rattle.line21_codes.specs.declared.channels.DataChannel.TheVariants as data_channels
use Rattle.line21_codes.specs.Channels.{numbered_channel}
use Rattle.line21_codes.specs.declared.codes.Code.{Code}
use Rattle.line21_codes.specs.declared.codes.Code.TheVariants.{Null, Text, Xds, Control}
use Rattle.line21_codes.specs.BasicCharacters.{basic_of}
use Rattle.line21_screen.specs.Channels.{ChannelState, new_channel, takes_captions}
use Rattle.line21_screen.specs.Editing.{printed}
use Rattle.line21_screen.specs.Controls.{after_control}

-- data channels 1 and 2, the selected one, and whether extended data are under way
pub record FieldState : Type 0 where
  pub first : ChannelState
  pub second : ChannelState
  pub selected : DataChannel
  pub xds : Bool

-- a field before its first pair
abbrev pub new_field : FieldState
new_field = record { first = new_channel; second = new_channel; selected = data_channels.One; xds = false }

-- a data channel's state
abbrev pub channel : DataChannel → FieldState → ChannelState
channel data_channels.One s = s.first
channel data_channels.Two s = s.second

-- a data channel changes
abbrev pub on_channel : DataChannel → (ChannelState → ChannelState) → FieldState → FieldState
on_channel data_channels.One change s = record s { first = change s.first }
on_channel data_channels.Two change s = record s { second = change s.second }

-- a character, or none, for a channel that may take it
abbrev pub after_character : Option ℕ → ChannelState → ChannelState
after_character (Some ch) s = if takes_captions s then printed ch s else s
after_character None s = s

-- the two bytes of a text pair, each of which is a character or prints nothing
abbrev pub after_text : ℕ → ℕ → ChannelState → ChannelState
after_text first second s = after_character (basic_of second) (after_character (basic_of first) s)

-- whether extended data are under way after a pair of theirs: in field 2 it begins them, or ends
-- them where its first byte is 0F (that field 1 has none is this project's own choice)
abbrev pub begins_xds : FieldNumber → ℕ → Bool
begins_xds fields.One first = false
begins_xds fields.Two first = nat_lt first 0x0F

-- one equation for each code. A pair of extended data prints nothing, and text within them is
-- dropped. A control code selects its data channel and ends extended data (what stays after such
-- pairs is this project's own choice)
abbrev pub after_code : FieldNumber → Code → FieldState → FieldState
after_code in_field Null s = s
after_code in_field (Text first second) s =
    if s.xds then s else on_channel s.selected (after_text first second) s
after_code in_field (Xds first second) s =
    record s { xds = begins_xds in_field first }
after_code in_field (Control second control) s =
    let selected = numbered_channel second in
    on_channel selected (after_control control) (record s { selected = selected; xds = false })
