use Rattle.std.proofs.Common.{◌≡◌, ◌∙◌, sym, refl, codes, decimal}
use Rattle.dtvcc_windows.specs.Objects.{state_of}
use Rattle.dtvcc_windows.specs.Showing.{as_shown}
use Rattle.text_output.proofs.PageLemmas.{written_same}
use Rattle.grid_print.specs.WindowTexts.{attributes_text, place_text, window_line}
use Rattle.grid_print.proofs.WindowRowLemmas.{at_live}
use Rattle.grid_print.proofs.WindowTextLemmas.{join7}
use Rattle.grid_print.proofs.window_text.write_line.Goals as goal

pub returns : goal.returns
unfolding window_line
returns g c start faults before has =
    let definition = at_live c.args.window.now (λ w. c.definition.result ≡ w.definition) c.requires c.definition.ensures in
    let attributes = at_live c.args.window.now (λ w. c.attributes.result ≡ w.attributes) c.requires c.attributes.ensures in
    written_same start faults _ _ _
    (join7 before (codes "W") (decimal c.args.id) (place_text (as_shown (state_of c.args.window.now))) (attributes_text c.attributes.result)
    (codes " runs ") (decimal c.run_count.result) (codes "\n")
    ∙ rw (attributes, c.run_count.ensures) refl)
    (c.write-3.ensures start faults _ (c.write_count.ensures start faults _ (c.write-2.ensures start faults _ (c.write_attributes.ensures start faults _
    (c.write_place.ensures (state_of c.args.window.now) (sym definition) start faults _ (c.write_small.ensures start faults _ (c.write.ensures start faults _ has)))))))
