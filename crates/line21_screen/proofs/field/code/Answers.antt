use Rattle.line21_screen.specs.Codes.{IsPossibleCode}
use Rattle.line21_screen.proofs.CodeLemmas.{code_of-possible}
use Rattle.line21_screen.proofs.field.code.Goals as goal
use Rattle.std.proofs.Common.{subst, sym}

pub returns-in-Ok-clause-possible : goal.returns-in-Ok-clause-possible
returns-in-Ok-clause-possible c = subst IsPossibleCode (sym c.in-Ok.ensures.code) (code_of-possible c.args.pair)
