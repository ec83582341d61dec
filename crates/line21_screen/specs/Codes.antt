-- Between crates: the program's answer stands on none of these definitions.
-- The codes that a pair can say, by their numbers (CTA-608-E and 47 CFR 79.101).
use Rattle.std.specs.Prelude.{⊤}
use Rattle.line21_codes.specs.declared.codes.Code.{Code}
use Rattle.line21_codes.specs.declared.codes.Code.TheVariants.{Control}
use Rattle.line21_screen.specs.Controls.{IsPossible}

-- a control code has the numbers that pairs can say
abbrev pub IsPossibleCode : Code → Type 0
IsPossibleCode (Control second control) = IsPossible control
IsPossibleCode _ = ⊤
