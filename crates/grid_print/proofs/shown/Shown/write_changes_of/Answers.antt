use Rattle.std.proofs.Common.{◌∙◌, sym}
use Rattle.grid_print.proofs.shown.Shown.write_changes_of.Goals as goal

pub returns-clause-text : goal.returns-clause-text
returns-clause-text g c was seen turned shows same =
    c.write_screens.ensures.text seen shows (λ untouched service id is small. same service id is small ∙ sym (c.is_touched.ensures was seen turned untouched service id is))

pub returns-clause-now : goal.returns-clause-now
returns-clause-now g c was seen turned shows same =
    c.write_screens.ensures.now seen shows (λ untouched service id is small. same service id is small ∙ sym (c.is_touched.ensures was seen turned untouched service id is))
