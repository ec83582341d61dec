use Rattle.std.proofs.Common.{◌≡◌, List, refl}
use Rattle.std.specs.Prelude.{All, map}
use Rattle.std.proofs.lemmas.List.Elements.{All-map, All-same, All-weaker}
use Rattle.line21_codes.specs.declared.channels.FieldNumber.{FieldNumber}
use Rattle.line21_codes.specs.declared.codes.Code.{Code}
use Rattle.line21_codes.specs.Writable.{IsWritable}
use Rattle.line21_codes.proofs.CodeLemmas.{written-odd, is_control-written}
use Rattle.cue_lists.specs.declared.cue.Cue.{Cue}
use Rattle.cue_lists.specs.Cues.{IsCueFormed}
use Rattle.line21_author.specs.declared.unit.Unit.{Unit}
use Rattle.line21_author.specs.Channels.{field_of_kind}
use Rattle.line21_author.specs.CueCodes.{cue_codes}
use Rattle.line21_author.specs.CueUnits.{unit_of, units_of}
use Rattle.line21_author.specs.UnitPairs.{IsCarried}
use Rattle.line21_author.proofs.CueCodesLemmas.{cue_codes_writable}

-- the unit of a code that can be written can be carried
pub unit_of_carried : (in_field : FieldNumber) (code : Code) → IsWritable code → IsCarried (unit_of in_field code)
unit_of_carried in_field code writable =
    record { parity = written-odd in_field code writable; doubled = is_control-written in_field code writable }

-- so can the units of codes that can be written
pub units_carried : (in_field : FieldNumber) (codes : List Code) (units : List Unit) → All IsWritable codes
    → units ≡ map (unit_of in_field) codes → All IsCarried units
units_carried in_field codes units writable is =
    All-same IsCarried units (map (unit_of in_field) codes) is
    (All-map IsCarried (unit_of in_field) codes
    (All-weaker IsWritable (λ code. IsCarried (unit_of in_field code)) (unit_of_carried in_field) codes writable))

-- so can every unit of a cue in its ranges
pub units_of_carried : (cue : Cue) → IsCueFormed cue → All IsCarried (units_of cue)
units_of_carried cue formed =
    units_carried (field_of_kind cue.kind) (cue_codes cue) (units_of cue) (cue_codes_writable cue formed) refl
