use Rattle.std.proofs.Common.{◌∙◌, refl, [], ◌∷◌, codes}
use Rattle.text_output.proofs.PageLemmas.{written_same}
use Rattle.grid_print.specs.WindowTexts.{all_joined, all_spaced}
use Rattle.grid_print.proofs.WindowTextLemmas.{join6}
use Rattle.grid_print.proofs.window_text.write_attributes.Goals as goal

pub returns : goal.returns
returns g c start faults before has =
    let a = c.args.a.now in
    written_same start faults _ _ _
    (join6 before (codes " attr") (all_spaced (a.justify ∷ a.print ∷ a.scroll ∷ c.flag.result ∷ a.effect ∷ a.effect_dir ∷ a.effect_speed ∷ []))
    (codes " fill ") (all_joined (a.fill.opacity ∷ a.fill.r ∷ a.fill.g ∷ a.fill.b ∷ []))
    (codes " border ") (all_joined (a.border_kind ∷ a.border.r ∷ a.border.g ∷ a.border.b ∷ []))
    ∙ rw c.flag.ensures refl)
    (c.write_joined-2.ensures start faults _ (c.write-3.ensures start faults _ (c.write_joined.ensures start faults _ (c.write-2.ensures start faults _
    (c.write_spaced.ensures start faults _ (c.write.ensures start faults _ has))))))
