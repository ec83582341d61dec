-- Between crates: the program's answer stands on none of these definitions.
-- The numbers of rows that roll-up captions may have: 2, 3 or 4 (CTA-608-E, roll-up captions).
use Rattle.std.specs.Prelude.{◌&&◌, nat_le, Bool, true}
use Rattle.line21_screen.specs.declared.modes.Mode.{Mode}
use Rattle.line21_screen.specs.declared.modes.Mode.TheVariants.{Off, PopOn, PaintOn, RollUp}

-- the mode's number of rows is one of these
abbrev pub has_rows : Mode → Bool
has_rows (RollUp rows) = nat_le 2 rows && nat_le rows 4
has_rows Off = true
has_rows PopOn = true
has_rows PaintOn = true
