-- Believed: the program's answer stands on these definitions.
-- The data channel that captions are written for: a control code of data channel 1, which is CC1 in
-- field 1 and CC3 in field 2 (CTA-608-E; 47 CFR 79.101).
use Rattle.std.specs.Prelude.{false}
use Rattle.line21_codes.specs.declared.codes.Code.{Code}
use Rattle.line21_codes.specs.declared.codes.Code.TheVariants.{Control}
use Rattle.line21_codes.specs.declared.codes.Control.{Control as ControlCode}

-- a control code of data channel 1
abbrev pub first_channel : ControlCode → Code
first_channel control = Control false control
