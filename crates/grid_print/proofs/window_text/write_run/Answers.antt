use Rattle.std.proofs.Common.{[], ◌∷◌, codes, decimal, encode_utf8_all}
use Rattle.text_output.proofs.PageLemmas.{written_same}
use Rattle.grid_print.specs.CellRuns.{front_text}
use Rattle.grid_print.specs.Writing.{in_pens}
use Rattle.grid_print.specs.WindowTexts.{all_spaced, colors_text, pen_attributes_text, window_run_line}
use Rattle.grid_print.proofs.WindowTextLemmas.{join6}
use Rattle.grid_print.proofs.window_text.write_run.Goals as goal

pub returns : goal.returns
unfolding window_run_line
returns g c start faults before has =
    written_same start faults _ _ _
    (join6 before (decimal c.args.row) (all_spaced (c.args.col ∷ [])) (pen_attributes_text c.args.first.pen) (colors_text c.args.first.colors)
    (encode_utf8_all (front_text in_pens c.args.first c.args.cells.now)) (codes "\n"))
    (c.write.ensures start faults _ (c.write_front.ensures start faults _ (c.write_colors.ensures start faults _ (c.write_pen.ensures start faults _
    (c.write_spaced.ensures start faults _ (c.write_small.ensures start faults _ has))))))
