use Rattle.std.proofs.Common.{◌≡◌, ◌+◌, ◌≤◌, ◌∙◌, length, get_or, is_some, None, if◌then◌else◌, ap, sym, arith, Bool}
use Rattle.std.proofs.lemmas.List.{get_or_default}
use Rattle.std.specs.List.{filter_map, range_with_len}
use Rattle.grid_print.specs.CellRuns.{begun, row_runs, run_at}
use Rattle.grid_print.proofs.RunLemmas.{left_next, left_of, runs_counted}
use Rattle.grid_print.proofs.cell_runs.runs_of_row.Goals as goal
use Rattle.grid_print.proofs.cell_runs.runs_of_row.Goals.{then-is_some, else-is_some}

pub loop-cell-preserved : goal.loop-cell-preserved
loop-cell-preserved g c =
    let w = g.C.WrittenCell.writing in
    let item : c.cell-item.result ≡ get_or c.args.cells.now c.loop-cell.cell-index None =
    c.cell-item.is ∙ get_or_default c.args.cells.now c.loop-cell.cell-index c.cell-item.result None c.loop-cell-test.true in
    let starts : c.is_some.result ≡ is_some (begun w (left_of c.args.cells.now c.loop-cell.cell-index) (get_or c.args.cells.now c.loop-cell.cell-index None)) =
    c.is_some.ensures ∙ ap is_some (c.begun.ensures ∙ ap (begun w c.loop-cell.left) item ∙ ap (λ left. begun w left (get_or c.args.cells.now c.loop-cell.cell-index None)) c.loop-cell.invariant.left) in
    let added : c.if-is_some.count ≡ c.loop-cell.count + (if c.is_some.result then 1 else 0) =
    elim c.if-is_some.branch [
      | then-is_some w ↦ w.count-is ∙ ap (λ (b : Bool). c.loop-cell.count + (if b then 1 else 0)) (sym w.if-is_some.true)
      | else-is_some w ↦ omega (arith, w.count-is, ap (λ (b : Bool). c.loop-cell.count + (if b then 1 else 0)) (sym w.if-is_some.false))
    ] in
    let most : c.if-is_some.count ≤ c.loop-cell.count + 1 = elim c.if-is_some.branch [ then-is_some w ↦ omega arith | else-is_some w ↦ omega arith ] in
    record {
      left = item ∙ left_next c.args.cells.now c.loop-cell.cell-index;
      counted = λ row. added ∙ ap (λ (b : Bool). c.loop-cell.count + (if b then 1 else 0)) starts
          ∙ ap (λ n. n + (if is_some (begun w (left_of c.args.cells.now c.loop-cell.cell-index) (get_or c.args.cells.now c.loop-cell.cell-index None)) then 1 else 0)) (c.loop-cell.invariant.counted row)
          ∙ runs_counted w row c.args.cells.now c.loop-cell.cell-index;
      most = omega arith;
    }

pub returns-clause-count : goal.returns-clause-count
unfolding row_runs
returns-clause-count g c row =
    let all : c.loop-cell.cell-index ≡ length c.args.cells.now = omega arith in
    c.loop-cell.invariant.counted row ∙ ap (λ n. length (filter_map (run_at g.C.WrittenCell.writing row c.args.cells.now) (range_with_len 0 n))) all
