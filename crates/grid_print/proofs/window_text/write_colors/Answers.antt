use Rattle.std.proofs.Common.{append_assoc}
use Rattle.std.proofs.lemmas.List.{append-nil}
use Rattle.text_output.proofs.PageLemmas.{written_same}
use Rattle.grid_print.proofs.window_text.write_colors.Goals as goal

pub returns : goal.returns
returns g c start faults before has =
    written_same start faults _ _ _ (simp (append_assoc, append-nil))
    (c.write-4.ensures start faults _ (c.write_joined-3.ensures start faults _ (c.write-3.ensures start faults _ (c.write_joined-2.ensures start faults _
    (c.write-2.ensures start faults _ (c.write_joined.ensures start faults _ (c.write.ensures start faults _ has)))))))
