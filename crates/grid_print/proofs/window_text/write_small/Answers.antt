use Rattle.std.proofs.Common.{◌++◌, ap, decimal}
use Rattle.text_output.proofs.PageLemmas.{written_same}
use Rattle.grid_print.proofs.window_text.write_small.Goals as goal

pub returns : goal.returns
returns g c start faults before has =
    written_same start faults _ _ _ (ap (λ n. before ++ decimal n) c.from.ensures) (c.write_number.ensures start faults before has)
