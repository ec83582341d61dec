use Rattle.std.proofs.Common.{◌≡◌}
use Rattle.std.specs.Prelude.{All, map}
use Rattle.std.proofs.lemmas.Result.{IfOk-weaker}
use Rattle.line21_codes.specs.Writable.{IsWritable}
use Rattle.line21_author.specs.CueUnits.{unit_of}
use Rattle.line21_author.specs.UnitPairs.{IsCarried}
use Rattle.line21_author.proofs.CueCodesLemmas.{cue_codes_writable}
use Rattle.line21_author.proofs.CueUnitsLemmas.{units_carried}
use Rattle.line21_author.proofs.cue.units.Goals as goal

-- every code of a formed cue can be written
pub written_units-requires : goal.written_units-requires
written_units-requires c =
    rw (c.deref.ensures.value, c.in_ok-codes.ensures) (cue_codes_writable c.args.cue.now c.requires)

-- and so every unit can be carried
pub returns-clause-carried : goal.returns-clause-carried
returns-clause-carried c =
    let writable : All IsWritable c.deref.result.now =
    rw (c.deref.ensures.value, c.in_ok-codes.ensures) (cue_codes_writable c.args.cue.now c.requires) in
    IfOk-weaker c.written_units.result
    (λ units. units ≡ map (unit_of c.field_of_kind.result) c.deref.result.now)
    (λ units. All IsCarried units)
    (λ units is. units_carried c.field_of_kind.result c.deref.result.now units writable is)
    c.written_units.ensures
