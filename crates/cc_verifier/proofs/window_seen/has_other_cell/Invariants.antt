use Rattle.std.proofs.Common.{◌≡◌, ◌<◌, ℕ}
use Rattle.cue_lists.specs.AuthoredServiceGrid.{written_cells}
use Rattle.dtvcc_windows.specs.Objects.{state_of}
use Rattle.cc_verifier.proofs.window_seen.has_other_cell.Given as goal

abbrev pub invariant-loop-row : goal.invariant-loop-row
invariant-loop-row l = (row : ℕ) → row < l.row → (column : ℕ) → column < l.own.cols
    → (state_of l.window).cells row column ≡ written_cells l.own.ps l.runs row column
