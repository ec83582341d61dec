use Rattle.std.proofs.Common.{◌≡◌, ◌++◌, ℕ, List, Option, drop, encode_utf8_all}
use Rattle.text_output.specs.Pages.{HasWrittenText, page}
use Rattle.grid_print.specs.CellRuns.{front_text}
use Rattle.grid_print.proofs.cell_runs.write_front.Given as goal

-- what is written, with the characters of the cells to come, is the characters of all
abbrev pub invariant-loop-cell : goal.invariant-loop-cell
invariant-loop-cell g l = (start : Option (List ℕ)) (faults : ℕ) (before : List ℕ)
    → HasWrittenText start faults before (page l.initial.text (g.O.Sink.written l.initial.out) (g.O.Sink.faults l.initial.out))
    → (done : List ℕ) × HasWrittenText start faults (before ++ done) (page l.text (g.O.Sink.written l.out) (g.O.Sink.faults l.out))
    × (done ++ encode_utf8_all (front_text g.C.WrittenCell.writing l.first (drop l.cell-index l.cells)) ≡ encode_utf8_all (front_text g.C.WrittenCell.writing l.first l.cells))
