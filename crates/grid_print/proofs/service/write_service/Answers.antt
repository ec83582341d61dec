use Rattle.std.proofs.Common.{◌∙◌, codes, decimal, refl}
use Rattle.std.specs.List.{flat_map}
use Rattle.text_output.proofs.PageLemmas.{some_then, written_same}
use Rattle.grid_print.specs.WindowTexts.{service_text, shown_ids, window_text}
use Rattle.grid_print.proofs.WindowTextLemmas.{join6}
use Rattle.grid_print.proofs.service.write_service.Goals as goal

pub returns-clause-some : goal.returns-clause-some
returns-clause-some g c =
    some_then _ _ _ (_, c.write.ensures) (some_then _ _ _ (_, c.write_number.ensures) (some_then _ _ _ (_, c.write-2.ensures)
    (some_then _ _ _ (_, c.write_number-2.ensures) (some_then _ _ _ (_, c.write-3.ensures) c.write_windows.ensures.some))))

pub returns-clause-text : goal.returns-clause-text
unfolding service_text
returns-clause-text g c seen behind start faults before has =
    written_same start faults _ _ _
    (join6 before (codes "S") (decimal c.from.result) (codes " ") (decimal c.seen_count.result) (codes "\n")
    (flat_map (λ one. window_text one.0 one.1) (shown_ids (seen c.args.service)))
    ∙ rw (c.from.ensures, c.seen_count.ensures seen behind) refl)
    (c.write_windows.ensures.text seen behind start faults _ (c.write-3.ensures start faults _ (c.write_number-2.ensures start faults _
    (c.write-2.ensures start faults _ (c.write_number.ensures start faults _ (c.write.ensures start faults _ has))))))
