use Rattle.std.proofs.Common.{◌≡◌, ◌<◌, ℕ}
use Rattle.cue_lists.specs.AuthoredServiceGrid.{written_cells}
use Rattle.dtvcc_windows.specs.Objects.{state_of}
use Rattle.cc_verifier.proofs.window_seen.row_has_other_cell.Given as goal

abbrev pub invariant-loop-column : goal.invariant-loop-column
invariant-loop-column l = (column : ℕ) → column < l.column → (state_of l.window).cells l.row column ≡ written_cells l.own.ps l.runs l.row column
