use Rattle.line21_screen.proofs.DifferenceLemmas.{Decides-differs}
use Rattle.line21_screen.proofs.laws.grids_differ_where_a_place_has_another_cell.Goals as goal

pub returns : goal.returns
returns c old new = Decides-differs old new
