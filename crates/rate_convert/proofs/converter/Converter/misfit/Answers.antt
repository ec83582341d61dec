use Rattle.std.proofs.Common.{Option, subst, sym}
use Rattle.std.specs.Prelude.{MatchOption}
use Rattle.findings.specs.declared.misfit.Misfit.{Misfit}
use Rattle.rate_convert.specs.Halvers.{misfit_of}
use Rattle.rate_convert.specs.Misfits.{AreFit, HasMisfit}
use Rattle.rate_convert.proofs.ConverterLemmas.{stands_behind, told_by}
use Rattle.rate_convert.proofs.converter.Converter.misfit.Goals as goal

pub returns-clause-exact : goal.returns-clause-exact
returns-clause-exact c = λ bytes frames had are.
    subst (λ (m : Option Misfit). MatchOption m (AreFit frames) (HasMisfit frames)) (sym c.misfit.ensures)
    (told_by (misfit_of c.args.self.now.halver) frames c.args.self.now.halver (stands_behind bytes frames c.args.self.now had are))
