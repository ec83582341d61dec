use Rattle.std.proofs.Common.{◌∙◌, below_more, sym}
use Rattle.dtvcc_windows.proofs.PartLemmas.{told_same}
use Rattle.line21_screen.proofs.DifferenceLemmas.{Decides-option_eq}
use Rattle.cc_verifier.proofs.area.row_shows_other.Goals as goal

pub loop-column-preserved : goal.loop-column-preserved
loop-column-preserved c =
    below_more _ _ c.loop-column.invariant
    (sym c.cell.ensures.shown ∙ told_same _ (Decides-option_eq c.cell.result c.cell_at.result) (sym c.ne.ensures ∙ c.if-ne.false) ∙ c.cell_at.ensures)
