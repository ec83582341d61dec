use Rattle.std.proofs.Common.{refl}
use Rattle.std.specs.Int.Count.{ones}
use Rattle.line21_codes.specs.Reading.{code_of}
use Rattle.line21_codes.specs.Spellings.{spelling_of}
use Rattle.line21_codes.specs.Writing.{pair_of_code}
use Rattle.dual_fields.proofs.laws.row_two.Goals as goal

pub returns : goal.returns
unfolding ones spelling_of pair_of_code code_of
returns c = refl
