use Rattle.std.proofs.Common.{◌≡◌, ◌+◌, ◌++◌, ◌∙◌, ap, sym, refl, arith, List, append_assoc}
use Rattle.std.proofs.lemmas.List.{append-nil}
use Rattle.std.specs.List.{flat_map, range_with_len}
use Rattle.dtvcc_windows.specs.declared.cells.DCell.{DCell}
use Rattle.dtvcc_windows.specs.Objects.{state_of}
use Rattle.dtvcc_windows.specs.Places.{window_row}
use Rattle.dtvcc_windows.specs.Showing.{StandsIn, as_shown}
use Rattle.text_output.proofs.PageLemmas.{written_same}
use Rattle.grid_print.specs.CellRuns.{Run, row_runs}
use Rattle.grid_print.specs.Writing.{in_pens}
use Rattle.grid_print.proofs.CellRowLemmas.{flat_map_twice, one_row_more}
use Rattle.grid_print.specs.WindowRuns.{runs_in}
use Rattle.grid_print.specs.WindowTexts.{window_run_line}
use Rattle.grid_print.proofs.WindowRowLemmas.{at_live, nothing_before, nothing_behind, runs_by_rows, short_row}
use Rattle.grid_print.proofs.WindowTextLemmas.{window_joined}
use Rattle.grid_print.proofs.window_text.write_window.Goals as goal

pub loop-row-init : goal.loop-row-init
loop-row-init g c start faults before has =
    let stands = at_live c.args.window.now (StandsIn c.rows-rows.result.start c.rows-rows.result.end) c.requires c.rows-rows.ensures in
    let window = as_shown (state_of c.args.window.now) in
    written_same start faults _ _ _
    (sym (append-nil before)
    ∙ ap (λ lines. before ++ lines) (sym (nothing_before (λ (rs : List (Run DCell)). flat_map window_run_line rs) window c.rows-rows.result.start refl stands.above)))
    has

pub loop-row-preserved : goal.loop-row-preserved
loop-row-preserved g c start faults before has =
    let window = as_shown (state_of c.args.window.now) in
    let row = at_live c.args.window.now (λ w. c.row.result.now ≡ window_row w.cells w.definition.cols c.loop-row.row) c.requires c.row.ensures in
    written_same start faults _ _ _
    (append_assoc before _ _ ∙ ap (λ lines. before ++ lines)
    (ap (λ cells. flat_map (λ row. flat_map window_run_line (runs_in window row)) (range_with_len 0 c.loop-row.row) ++ flat_map window_run_line (row_runs in_pens c.loop-row.row cells)) row
    ∙ one_row_more (λ row. flat_map window_run_line (runs_in window row)) 0 c.loop-row.row c.loop-row.row (c.loop-row.row + 1) (omega arith) refl))
    (c.write_row.ensures start faults _ (c.loop-row.invariant start faults before has))

pub write_row-requires : goal.write_row-requires
write_row-requires g c =
    let row = at_live c.args.window.now (λ w. c.row.result.now ≡ window_row w.cells w.definition.cols c.loop-row.row) c.requires c.row.ensures in
    short_row (state_of c.args.window.now) c.loop-row.row c.row.result.now row c.args.window.now.cols_to

pub returns : goal.returns
returns g c start faults before has =
    let stands = at_live c.args.window.now (StandsIn c.rows-rows.result.start c.rows-rows.result.end) c.requires c.rows-rows.ensures in
    let window = as_shown (state_of c.args.window.now) in
    let order = stands.order in
    let behind : c.loop-row.row ≡ c.rows-rows.result.end = omega (arith, order) in
    let lines = ap (λ row. flat_map (λ row. flat_map window_run_line (runs_in window row)) (range_with_len 0 row)) behind
    ∙ nothing_behind (λ (rs : List (Run DCell)). flat_map window_run_line rs) window c.rows-rows.result.end refl stands.within stands.below
    ∙ flat_map_twice window_run_line (runs_in window) (range_with_len 0 window.rows) ∙ ap (flat_map window_run_line) (sym (runs_by_rows window)) in
    written_same start faults _ _ _ (window_joined before _ c.args.id window lines) (c.loop-row.invariant start faults _ (c.write_line.ensures start faults before has))
