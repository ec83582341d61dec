use Rattle.std.proofs.Common.{◌∙◌}
use Rattle.std.proofs.lemmas.Bool.{true≢false}
use Rattle.text_output.proofs.PageLemmas.{put_whole}
use Rattle.grid_print.proofs.shown.Shown.put_changes_of.Goals as goal

pub returns-clause-bytes : goal.returns-clause-bytes
returns-clause-bytes g c seen behind =
    (put_whole _ _ _ _ _ c.finish.result c.begin.ensures.answer (c.begin.ensures.held ∙ c.new-text.ensures)
    (c.write_screens.ensures.text seen behind (λ is. absurd (true≢false is))) c.finish.ensures).0

pub returns-clause-cause : goal.returns-clause-cause
returns-clause-cause g c =
    (put_whole _ _ _ _ _ c.finish.result c.begin.ensures.answer (c.begin.ensures.held ∙ c.new-text.ensures) c.write_screens.ensures.some.1 c.finish.ensures).1

pub returns-clause-now : goal.returns-clause-now
returns-clause-now g c seen behind = c.write_screens.ensures.now seen behind (λ is. absurd (true≢false is))
