use Rattle.std.proofs.Common.{◌≡◌, vec_len}
use Rattle.dtvcc_windows.specs.Lists.{listed_cells}
use Rattle.dtvcc_windows.proofs.SizeLemmas.{kept_above}
use Rattle.dtvcc_windows.proofs.cells.Cells.keep.Given as goal

-- the rows so far have lost the cells outside of the size
abbrev pub invariant-loop-row : goal.invariant-loop-row
invariant-loop-row l = record {
  kept : listed_cells l.self.places.items ≡ kept_above l.row l.rows l.cols (listed_cells l.initial.self.places.items);
  filled : vec_len l.self.places ≡ 1024;
}
