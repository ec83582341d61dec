-- Believed: the program's answer stands on these definitions.
-- The units of a line 21 cue: each code as the pair that its field carries; a control pair is sent
-- twice (CTA-608-E; 47 CFR 79.101).
use Rattle.std.specs.Prelude.{List, map}
use Rattle.line21_codes.specs.declared.channels.FieldNumber.{FieldNumber}
use Rattle.line21_codes.specs.declared.codes.Code.{Code}
use Rattle.line21_codes.specs.Writable.{is_doubled}
use Rattle.line21_codes.specs.Writing.{pair_of_code}
use Rattle.cue_lists.specs.declared.cue.Cue.{Cue}
use Rattle.line21_author.specs.declared.unit.Unit.{Unit}
use Rattle.line21_author.specs.Channels.{field_of_kind}
use Rattle.line21_author.specs.CueCodes.{cue_codes}

-- the unit of a code in a field
abbrev pub unit_of : FieldNumber → Code → Unit
unit_of in_field code = record { pair = pair_of_code in_field code; doubled = is_doubled code }

-- the units of a cue
abbrev pub units_of : Cue → List Unit
units_of cue = map (unit_of (field_of_kind cue.kind)) (cue_codes cue)
