-- Believed: the program's answer stands on these definitions.
-- The names of misfits, as they are printed.
use Rattle.std.specs.Prelude.{ℕ, List, codes}
use Rattle.findings.specs.declared.misfit.MisfitKind.{MisfitKind}
use Rattle.findings.specs.declared.misfit.MisfitKind.TheVariants as kind

-- the name of a misfit
abbrev pub misfit_name : MisfitKind → List ℕ
misfit_name (kind.Rate code) = codes "Rate"
misfit_name (kind.Count seen) = codes "Count"
misfit_name (kind.One seen) = codes "One"
misfit_name (kind.Two seen) = codes "Two"
misfit_name (kind.Many seen) = codes "Many"
misfit_name (kind.Changed which) = codes "Changed"
