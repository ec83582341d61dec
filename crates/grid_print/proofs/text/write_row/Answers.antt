use Rattle.std.proofs.Common.{◌≡◌, ◌++◌, ◌∙◌, None, get_or, length, ap, refl, sym, arith}
use Rattle.std.proofs.lemmas.List.{append-nil, take_rest}
use Rattle.std.specs.List.{filter_map, flat_map, range_with_len}
use Rattle.text_output.proofs.PageLemmas.{written_same}
use Rattle.grid_print.specs.GridTexts.{run_line}
use Rattle.grid_print.specs.CellRuns.{begun, row_runs, run_at}
use Rattle.grid_print.specs.Writing.{in_styles}
use Rattle.grid_print.proofs.RunLemmas.{left_next, left_of, lines_kept, lines_more}
use Rattle.grid_print.proofs.text.write_row.Goals as goal
use Rattle.grid_print.proofs.text.write_row.Goals.{in-Some, in_default}

pub loop-col-init : goal.loop-col-init
loop-col-init g c = record { left = refl; written = λ start faults before has. written_same start faults _ _ _ (sym (append-nil before)) has }

pub loop-col-preserved : goal.loop-col-preserved
loop-col-preserved g c =
    let starts : c.begun.result ≡ begun in_styles (left_of c.args.cells.now c.loop-col.col) (get_or c.args.cells.now c.loop-col.col None) =
    c.begun.ensures ∙ ap (λ left. begun in_styles left (get_or c.args.cells.now c.loop-col.col None)) c.loop-col.invariant.left in
    record {
      left = left_next c.args.cells.now c.loop-col.col;
      written = λ start faults before has.
          elim c.match-begun.branch [
            | in-Some w ↦ rw (w.text-is, w.out-is) (written_same start faults _ _ _
                (lines_more in_styles run_line c.args.row c.args.cells.now c.loop-col.col before w.in-Some.first (sym starts ∙ w.in-Some.is))
                (rw (take_rest c.args.cells.now c.loop-col.col) at (w.write_run.ensures start faults _ (c.loop-col.invariant.written start faults before has))))
            | in_default w ↦ rw (w.text-is, w.out-is) (written_same start faults _ _ _
                (lines_kept in_styles run_line c.args.row c.args.cells.now c.loop-col.col before (sym starts ∙ w.in_default.is))
                (c.loop-col.invariant.written start faults before has))
          ];
    }

pub returns : goal.returns
unfolding row_runs
returns g c start faults before has =
    let all : c.loop-col.col ≡ length c.args.cells.now = omega arith in
    written_same start faults _ _ _
    (ap (λ n. before ++ flat_map run_line (filter_map (run_at in_styles c.args.row c.args.cells.now) (range_with_len 0 n))) all)
    (c.loop-col.invariant.written start faults before has)
