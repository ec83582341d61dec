use Rattle.std.proofs.Common.{◌≡◌, ◌+◌, ◌++◌, ◌-◌, ◌∙◌, ap, sym, refl, arith, decimal, List, append_assoc}
use Rattle.std.proofs.lemmas.List.{append-nil}
use Rattle.std.specs.List.{flat_map, range_with_len}
use Rattle.line21_screen.specs.Grid.{rows}
use Rattle.line21_screen.specs.Objects.{grid_in}
use Rattle.text_output.proofs.PageLemmas.{written_same}
use Rattle.grid_print.specs.GridTexts.{run_line}
use Rattle.grid_print.specs.CellRuns.{Run, row_runs}
use Rattle.grid_print.specs.Writing.{in_styles}
use Rattle.grid_print.proofs.CellRowLemmas.{flat_map_twice, one_row_more}
use Rattle.line21_codes.specs.declared.styles.Cell.{Cell}
use Rattle.grid_print.specs.Runs.{runs_in}
use Rattle.grid_print.proofs.RowLemmas.{nothing_before, nothing_behind, runs_by_rows}
use Rattle.grid_print.proofs.TextLemmas.{grid_joined}
use Rattle.grid_print.proofs.text.write_grid.Goals as goal

pub loop-row-init : goal.loop-row-init
loop-row-init g c start faults before has =
    written_same start faults _ _ _
    (sym (append-nil before) ∙ ap (λ lines. before ++ lines) (sym (nothing_before (λ (rs : List (Run Cell)). flat_map run_line rs) (grid_in c.args.memory.now) c.rows-rows.result.start refl c.rows-rows.ensures.above)))
    has

pub loop-row-preserved : goal.loop-row-preserved
loop-row-preserved g c start faults before has =
    written_same start faults _ _ _
    (append_assoc before _ _ ∙ ap (λ lines. before ++ lines)
    (ap (λ cells. flat_map (λ row. flat_map run_line (runs_in (grid_in c.args.memory.now) row)) (range_with_len 1 (c.loop-row.row - 1)) ++ flat_map run_line (row_runs in_styles c.loop-row.row cells)) c.row.ensures.cells
    ∙ one_row_more (λ row. flat_map run_line (runs_in (grid_in c.args.memory.now) row)) 1 (c.loop-row.row - 1) c.loop-row.row (c.loop-row.row + 1 - 1) (omega arith) (omega arith)))
    (c.write_row.ensures start faults _ (c.loop-row.invariant start faults before has))

pub returns : goal.returns
returns g c start faults before has =
    let behind : c.loop-row.row ≡ c.rows-rows.result.end = omega arith in
    let lines = ap (λ row. flat_map (λ row. flat_map run_line (runs_in (grid_in c.args.memory.now) row)) (range_with_len 1 (row - 1))) behind
    ∙ nothing_behind (λ (rs : List (Run Cell)). flat_map run_line rs) (grid_in c.args.memory.now) c.rows-rows.result.end refl (omega arith) c.rows-rows.ensures.to c.rows-rows.ensures.below
    ∙ flat_map_twice run_line (runs_in (grid_in c.args.memory.now)) rows ∙ ap (flat_map run_line) (sym (runs_by_rows (grid_in c.args.memory.now))) in
    written_same start faults _ _ _
    (grid_joined before c.as_bytes.result.now c.as_bytes-2.result.now _ c.args.chan (grid_in c.args.memory.now) (c.as_bytes.ensures.value ∙ c.name.ensures)
    (c.as_bytes-2.ensures.value ∙ c.format.ensures.text ∙ ap decimal c.run_count.ensures) lines)
    (c.loop-row.invariant start faults _ (c.write_all.ensures start faults before has))
