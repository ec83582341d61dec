use Rattle.std.proofs.Common.{◌∙◌, ap}
use Rattle.dtvcc_windows.specs.Lists.{listed_cells}
use Rattle.dtvcc_windows.proofs.CellLemmas.{no_places}
use Rattle.dtvcc_windows.proofs.cells.Cells.new.Goals as goal

pub returns : goal.returns
returns c = ap listed_cells c.in_ok-with_capacity.ensures.items ∙ no_places
