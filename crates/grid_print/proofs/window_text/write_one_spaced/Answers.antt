use Rattle.std.proofs.Common.{append_assoc}
use Rattle.text_output.proofs.PageLemmas.{written_same}
use Rattle.grid_print.proofs.window_text.write_one_spaced.Goals as goal

pub returns : goal.returns
returns g c start faults before has =
    written_same start faults _ _ _ (append_assoc before _ _) (c.write_small.ensures start faults _ (c.write.ensures start faults _ has))
