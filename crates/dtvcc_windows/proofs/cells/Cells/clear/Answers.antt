use Rattle.dtvcc_windows.proofs.CellLemmas.{none_cells}
use Rattle.dtvcc_windows.proofs.cells.Cells.clear.Goals as goal

pub returns-clause-cells : goal.returns-clause-cells
returns-clause-cells c = none_cells _ c.empty.ensures.none
