use Rattle.std.proofs.Common.{◌∙◌, below_more, sym}
use Rattle.dtvcc_windows.proofs.PartLemmas.{told_same}
use Rattle.dtvcc_windows.proofs.SameLemmas.{Decides-place}
use Rattle.dtvcc_windows.specs.Objects.{is_live, state_of}
use Rattle.dtvcc_windows.specs.Windows.{WindowState}
use Rattle.cc_verifier.proofs.WindowSeenLemmas.{given}
use Rattle.cc_verifier.proofs.window_seen.row_has_other_cell.Goals as goal

pub loop-column-preserved : goal.loop-column-preserved
loop-column-preserved c =
    below_more _ _ c.loop-column.invariant
    (sym (given (is_live c.args.window.now) (state_of c.args.window.now) (λ (w : WindowState). w.cells c.args.row c.loop-column.column) c.cell.result c.requires.live c.cell.ensures)
    ∙ told_same _ (Decides-place c.cell.result c.written_cell.result) (sym c.ne.ensures ∙ c.if-ne.false)
    ∙ c.written_cell.ensures)
