use Rattle.std.proofs.Common.{◌∙◌, refl, [], ◌∷◌, codes}
use Rattle.text_output.proofs.PageLemmas.{written_same}
use Rattle.grid_print.specs.WindowTexts.{all_spaced}
use Rattle.grid_print.proofs.WindowTextLemmas.{join8}
use Rattle.grid_print.proofs.window_text.write_place.Goals as goal

pub returns : goal.returns
returns g c w is start faults before has =
    let d = c.args.d.now in
    written_same start faults _ _ _
    (join8 before (codes " at") (all_spaced (c.flag.result ∷ d.av ∷ d.ah ∷ d.anchor ∷ [])) (codes " size") (all_spaced (d.rows ∷ d.cols ∷ []))
    (codes " lock") (all_spaced (c.flag-2.result ∷ c.flag-3.result ∷ [])) (codes " pri") (all_spaced (d.priority ∷ []))
    ∙ rw (is, c.flag.ensures, c.flag-2.ensures, c.flag-3.ensures) refl)
    (c.write_spaced-4.ensures start faults _ (c.write-4.ensures start faults _ (c.write_spaced-3.ensures start faults _ (c.write-3.ensures start faults _
    (c.write_spaced-2.ensures start faults _ (c.write-2.ensures start faults _ (c.write_spaced.ensures start faults _ (c.write.ensures start faults _ has))))))))
