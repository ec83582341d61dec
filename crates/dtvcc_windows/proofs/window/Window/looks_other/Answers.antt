use Rattle.std.proofs.Common.{◌∙◌, sym}
use Rattle.dtvcc_windows.specs.Objects.{state_of}
use Rattle.dtvcc_windows.proofs.PartLemmas.{told_same}
use Rattle.dtvcc_windows.proofs.SameLemmas.{Decides-attributes, Decides-definition}
use Rattle.dtvcc_windows.proofs.ShowingLemmas.{as_shown-same}
use Rattle.dtvcc_windows.proofs.window.Window.looks_other.Goals as goal

pub returns-clause-same : goal.returns-clause-same
returns-clause-same c same =
    as_shown-same (state_of c.args.self.now) (state_of c.args.other.now)
    (sym c.seen.ensures ∙ told_same _ (Decides-definition c.seen.result c.seen-2.result) (sym c.ne-other_definition.ensures ∙ c.if-other_definition.false) ∙ c.seen-2.ensures)
    (told_same _ (Decides-attributes c.args.self.now.attributes c.args.other.now.attributes) (sym c.ne-other_attributes.ensures ∙ c.if-other_attributes.false))
    (c.differs.ensures.same same)
