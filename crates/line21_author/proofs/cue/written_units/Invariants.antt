use Rattle.std.proofs.Common.{◌≡◌, take}
use Rattle.std.specs.Prelude.{map}
use Rattle.line21_author.specs.CueUnits.{unit_of}
use Rattle.line21_author.proofs.cue.written_units.Given as goal

-- the units so far are the units of the codes so far
abbrev pub invariant-loop-code : goal.invariant-loop-code
invariant-loop-code l = l.units.items ≡ map (unit_of l.in_field) (take l.code-index l.codes)
