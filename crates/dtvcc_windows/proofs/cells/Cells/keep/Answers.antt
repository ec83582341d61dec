use Rattle.std.proofs.Common.{◌≡◌, ◌∙◌, arith}
use Rattle.dtvcc_windows.proofs.SizeLemmas.{kept_above-all}
use Rattle.dtvcc_windows.proofs.cells.Cells.keep.Goals as goal

pub returns-clause-cells : goal.returns-clause-cells
returns-clause-cells c =
    let last : c.loop-row.row ≡ 16 = omega arith in
    (rw last at c.loop-row.invariant.kept) ∙ kept_above-all c.args.rows c.args.cols c.args.self.now.places.items
