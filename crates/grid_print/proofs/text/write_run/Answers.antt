use Rattle.std.proofs.Common.{◌≡◌, ◌∙◌, append_assoc, decimal}
use Rattle.std.proofs.lemmas.List.{append-nil}
use Rattle.text_output.proofs.PageLemmas.{written_same}
use Rattle.grid_print.specs.GridTexts.{run_line}
use Rattle.grid_print.proofs.text.write_run.Goals as goal

pub returns : goal.returns
unfolding run_line
returns g c start faults before has =
    let row : c.as_bytes.result.now ≡ decimal c.args.row = c.as_bytes.ensures.value ∙ c.format.ensures.text in
    let col : c.as_bytes-2.result.now ≡ decimal c.args.col = c.as_bytes-2.ensures.value ∙ c.format-2.ensures.text in
    written_same start faults _ _ _
    (rw (row, col, c.as_bytes-3.ensures.value, c.word.ensures, c.as_bytes-4.ensures.value, c.italic_mark.ensures, c.as_bytes-5.ensures.value, c.underline_mark.ensures) (simp (append_assoc, append-nil)))
    (c.write.ensures start faults _ (c.write_front.ensures start faults _ (c.write_all.ensures start faults before has)))
