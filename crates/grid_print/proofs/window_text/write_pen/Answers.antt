use Rattle.std.proofs.Common.{refl}
use Rattle.text_output.proofs.PageLemmas.{written_same}
use Rattle.grid_print.proofs.window_text.write_pen.Goals as goal

pub returns : goal.returns
returns g c start faults before has =
    written_same start faults _ _ _ (rw (c.flag.ensures, c.flag-2.ensures) refl) (c.write_spaced.ensures start faults _ has)
