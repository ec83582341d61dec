use Rattle.std.proofs.Common.{◌≡◌, ◌+◌, ◌∙◌, length, ap, sym, refl, arith, List}
use Rattle.std.proofs.lemmas.List.{length-append}
use Rattle.std.specs.List.{flat_map, range_with_len}
use Rattle.dtvcc_windows.specs.declared.cells.DCell.{DCell}
use Rattle.dtvcc_windows.specs.Objects.{state_of}
use Rattle.dtvcc_windows.specs.Places.{window_row}
use Rattle.dtvcc_windows.specs.Showing.{StandsIn, as_shown}
use Rattle.grid_print.specs.CellRuns.{Run, row_runs}
use Rattle.grid_print.specs.Writing.{in_pens}
use Rattle.grid_print.proofs.CellRowLemmas.{one_row_more}
use Rattle.grid_print.specs.WindowRuns.{runs_in}
use Rattle.grid_print.proofs.WindowRowLemmas.{at_live, nothing_before, nothing_behind, runs_by_rows, short_row}
use Rattle.grid_print.proofs.window_runs.run_count.Goals as goal

pub loop-row-init : goal.loop-row-init
loop-row-init c =
    let stands = at_live c.args.window.now (StandsIn c.rows-rows.result.start c.rows-rows.result.end) c.requires c.rows-rows.ensures in
    record {
      counted = ap length (sym (nothing_before (λ (rs : List (Run DCell)). rs) (as_shown (state_of c.args.window.now)) c.rows-rows.result.start refl stands.above));
      most = omega arith;
    }

pub loop-row-preserved : goal.loop-row-preserved
loop-row-preserved c =
    let window = as_shown (state_of c.args.window.now) in
    let row = at_live c.args.window.now (λ w. c.row.result.now ≡ window_row w.cells w.definition.cols c.loop-row.row) c.requires c.row.ensures in
    record {
      counted = ap (λ n. n + c.runs_of_row-count.result) c.loop-row.invariant.counted
          ∙ ap (λ n. length (flat_map (runs_in window) (range_with_len 0 c.loop-row.row)) + n)
          (c.runs_of_row-count.ensures.count c.loop-row.row ∙ ap (λ cells. length (row_runs in_pens c.loop-row.row cells)) row)
          ∙ sym (length-append (flat_map (runs_in window) (range_with_len 0 c.loop-row.row)) (runs_in window c.loop-row.row))
          ∙ ap length (one_row_more (runs_in window) 0 c.loop-row.row c.loop-row.row (c.loop-row.row + 1) (omega arith) refl);
      most = omega arith;
    }

pub returns : goal.returns
returns c =
    let stands = at_live c.args.window.now (StandsIn c.rows-rows.result.start c.rows-rows.result.end) c.requires c.rows-rows.ensures in
    let window = as_shown (state_of c.args.window.now) in
    let order = stands.order in
    let behind : c.loop-row.row ≡ c.rows-rows.result.end = omega (arith, order) in
    c.loop-row.invariant.counted ∙ ap (λ row. length (flat_map (runs_in window) (range_with_len 0 row))) behind
    ∙ ap length (nothing_behind (λ (rs : List (Run DCell)). rs) window c.rows-rows.result.end refl stands.within stands.below ∙ sym (runs_by_rows window))

pub runs_of_row-count-requires : goal.runs_of_row-count-requires
runs_of_row-count-requires c =
    let row = at_live c.args.window.now (λ w. c.row.result.now ≡ window_row w.cells w.definition.cols c.loop-row.row) c.requires c.row.ensures in
    short_row (state_of c.args.window.now) c.loop-row.row c.row.result.now row c.args.window.now.cols_to
