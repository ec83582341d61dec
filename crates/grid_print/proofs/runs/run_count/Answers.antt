use Rattle.std.proofs.Common.{◌≡◌, ◌+◌, ◌-◌, ◌∙◌, length, ap, sym, refl, arith, List}
use Rattle.std.proofs.lemmas.List.{length-append}
use Rattle.std.specs.List.{flat_map, range_with_len}
use Rattle.line21_screen.specs.Objects.{grid_in}
use Rattle.grid_print.specs.CellRuns.{Run, row_runs}
use Rattle.grid_print.specs.Writing.{in_styles}
use Rattle.grid_print.proofs.CellRowLemmas.{one_row_more}
use Rattle.line21_codes.specs.declared.styles.Cell.{Cell}
use Rattle.grid_print.specs.Runs.{runs_in}
use Rattle.grid_print.proofs.RowLemmas.{nothing_before, nothing_behind, runs_by_rows}
use Rattle.grid_print.proofs.runs.run_count.Goals as goal

pub loop-row-init : goal.loop-row-init
loop-row-init c = record {
  counted = ap length (sym (nothing_before (λ (rs : List (Run Cell)). rs) (grid_in c.args.memory.now) c.rows-rows.result.start refl c.rows-rows.ensures.above));
  most = omega arith;
}

pub loop-row-preserved : goal.loop-row-preserved
loop-row-preserved c = record {
  counted = ap (λ n. n + c.runs_of_row-count.result) c.loop-row.invariant.counted
      ∙ ap (λ n. length (flat_map (runs_in (grid_in c.args.memory.now)) (range_with_len 1 (c.loop-row.row - 1))) + n)
      (c.runs_of_row-count.ensures.count c.loop-row.row ∙ ap (λ cells. length (row_runs in_styles c.loop-row.row cells)) c.row.ensures.cells)
      ∙ sym (length-append (flat_map (runs_in (grid_in c.args.memory.now)) (range_with_len 1 (c.loop-row.row - 1))) (runs_in (grid_in c.args.memory.now) c.loop-row.row))
      ∙ ap length (one_row_more (runs_in (grid_in c.args.memory.now)) 1 (c.loop-row.row - 1) c.loop-row.row (c.loop-row.row + 1 - 1) (omega arith) (omega arith));
  most = omega arith;
}

pub returns : goal.returns
returns c =
    let behind : c.loop-row.row ≡ c.rows-rows.result.end = omega arith in
    c.loop-row.invariant.counted ∙ ap (λ row. length (flat_map (runs_in (grid_in c.args.memory.now)) (range_with_len 1 (row - 1)))) behind
    ∙ ap length (nothing_behind (λ (rs : List (Run Cell)). rs) (grid_in c.args.memory.now) c.rows-rows.result.end refl (omega arith) c.rows-rows.ensures.to c.rows-rows.ensures.below ∙ sym (runs_by_rows (grid_in c.args.memory.now)))
