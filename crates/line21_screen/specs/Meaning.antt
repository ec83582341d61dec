-- Believed: the program's answer stands on these definitions.
-- What a list of pairs means: the state that it leaves in a field that was new
-- (CTA-608-E and 47 CFR 79.101). The pairs stand newest first.
use Rattle.std.specs.Prelude.{if◌then◌else◌, List, [], ◌∷◌}
use Rattle.line21_codes.specs.declared.channels.FieldNumber.{FieldNumber}
use Rattle.line21_codes.specs.declared.pairs.Pair.{Pair}
use Rattle.line21_codes.specs.Reading.{code_of}
use Rattle.line21_codes.specs.Repeats.{is_ignored}
use Rattle.line21_screen.specs.Fields.{FieldState, new_field, after_code}

-- a repeat of a control pair is ignored; each other pair does what its code says
unfoldable pub after : FieldNumber → List Pair → FieldState
after in_field [] = new_field
after in_field (pair ∷ before) =
    if is_ignored before pair then after in_field before
    else after_code in_field (code_of pair) (after in_field before)
