use Rattle.line21_codes.proofs.SameStyleLemmas.{Decides-same_style}
use Rattle.grid_print.proofs.AlikeLemmas.{Decides-alike}
use Rattle.grid_print.proofs.cell_laws.cells_are_written_alike.Goals as goal

pub returns : goal.returns
returns c = record { line21 = λ a b. Decides-same_style a.style b.style; windows = Decides-alike }
