use Rattle.line21_codes.proofs.SameStyleLemmas.{style_test}
use Rattle.grid_print.proofs.cells.CellWrittenCell.is_alike.Goals as goal

pub returns : goal.returns
returns c = style_test c.args.self.style c.args.other.style c.eq.result c.eq.ensures
