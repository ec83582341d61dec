-- Between crates: the program's answer stands on none of these definitions.
-- What codes of data channel 1 do to its captions, one after another (CTA-608-E; 47 CFR 79.101).
use Rattle.std.specs.Prelude.{List, [], ◌∷◌}
use Rattle.line21_codes.specs.declared.codes.Code.{Code}
use Rattle.line21_codes.specs.declared.codes.Code.TheVariants.{Null, Text, Xds, Control}
use Rattle.line21_screen.specs.Channels.{ChannelState}
use Rattle.line21_screen.specs.Controls.{after_control}
use Rattle.line21_screen.specs.Fields.{after_text}

-- a code: text, or a control code of the channel
abbrev pub does : Code → ChannelState → ChannelState
does Null s = s
does (Text first second) s = after_text first second s
does (Xds first second) s = s
does (Control second control) s = after_control control s

-- codes, one after another
abbrev pub does_all : List Code → ChannelState → ChannelState
does_all [] s = s
does_all (code ∷ codes) s = does_all codes (does code s)
