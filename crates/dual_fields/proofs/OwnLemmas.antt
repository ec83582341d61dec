-- A channel of a field has what its own units do.
use Rattle.std.proofs.Common.{◌≡◌, zero, suc, Bool, true, false, not, ◌&&◌, Option, Some, None, refl, ap, ◌∙◌}
use Rattle.std.specs.Prelude.{if◌then◌else◌}
use Rattle.line21_codes.specs.declared.channels.FieldNumber.{FieldNumber}
use Rattle.line21_codes.specs.declared.channels.DataChannel.{DataChannel}
use Rattle.line21_codes.specs.declared.channels.DataChannel.TheVariants.{One, Two}
use Rattle.line21_codes.specs.declared.codes.Code.{Code}
use Rattle.line21_codes.specs.declared.codes.Code.TheVariants.{Null, Text, Xds, Control}
use Rattle.line21_codes.specs.Reading.{code_of}
use Rattle.line21_screen.specs.Channels.{ChannelState}
use Rattle.line21_screen.specs.Fields.{FieldState, after_code, after_text, channel, on_channel}
use Rattle.dual_fields.specs.Own.{ChannelsAreOwn, is_same, own_of, own_unit, reaches}
use Rattle.line21_author.specs.declared.unit.Unit.{Unit}
use Rattle.line21_shown.specs.Doing.{does}
use Rattle.line21_shown.specs.Reading.{does_unit, after_unit, field_acts}

-- text reaches the selected channel, where no extended data are under way
text_step : (c selected : DataChannel) (xds : Bool) (change : ChannelState → ChannelState) (s : FieldState)
    → channel c (if xds then s else on_channel selected change s)
    ≡ (if not xds && is_same c selected then change (channel c s) else channel c s)
text_step One One true change s = refl
text_step One Two true change s = refl
text_step Two One true change s = refl
text_step Two Two true change s = refl
text_step One One false change s = refl
text_step One Two false change s = refl
text_step Two One false change s = refl
text_step Two Two false change s = refl

-- a code changes a channel where it reaches it
step : (f : FieldNumber) (c : DataChannel) (code : Code) (s : FieldState)
    → channel c (after_code f code s) ≡ (if reaches c s code then does code (channel c s) else channel c s)
step f c Null s = refl
step f c (Text first second) s = text_step c s.selected s.xds (after_text first second) s
step f One (Xds first second) s = refl
step f Two (Xds first second) s = refl
step f One (Control true control) s = refl
step f One (Control false control) s = refl
step f Two (Control true control) s = refl
step f Two (Control false control) s = refl

-- so does what begins in a slot
unit_step : (f : FieldNumber) (c : DataChannel) (u : Option Unit) (s : FieldState)
    → channel c (after_unit f u s) ≡ does_unit (own_unit c s u) (channel c s)
unit_step f c None s = refl
unit_step f c (Some unit) s = step f c (code_of unit.pair) s ∙ chosen (reaches c s (code_of unit.pair))
  where
    chosen : (b : Bool) → (if b then does (code_of unit.pair) (channel c s) else channel c s)
        ≡ does_unit (if b then Some unit else None) (channel c s)
    chosen true = refl
    chosen false = refl

pub channels_own : ChannelsAreOwn
channels_own f t One zero = refl
channels_own f t Two zero = refl
channels_own f t c (suc n) =
    unit_step f c (t n) (field_acts f t n) ∙ ap (does_unit (own_of f c t n)) (channels_own f t c n)
