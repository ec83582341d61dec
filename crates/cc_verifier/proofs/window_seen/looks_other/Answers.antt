use Rattle.std.proofs.Common.{◌∙◌, ap, sym}
use Rattle.dtvcc_windows.proofs.PartLemmas.{told_same}
use Rattle.dtvcc_windows.proofs.SameLemmas.{Decides-attributes, Decides-definition}
use Rattle.dtvcc_windows.specs.Objects.{is_live, state_of}
use Rattle.dtvcc_windows.specs.Windows.{WindowState}
use Rattle.cc_verifier.specs.WindowSeen.{seen_part}
use Rattle.cc_verifier.proofs.WindowSeenLemmas.{given, seen_alike}
use Rattle.cc_verifier.proofs.window_seen.looks_other.Goals as goal

pub returns-clause-same : goal.returns-clause-same
returns-clause-same c same =
    let window = state_of c.args.window.now in
    let live = is_live c.args.window.now in
    seen_alike (state_of c.args.window.now) c.args.own c.args.runs.now
    (ap seen_part (sym (given live window (λ (w : WindowState). w.definition) c.definition.result c.requires.live c.definition.ensures)) ∙ sym c.seen_part.ensures
    ∙ told_same _ (Decides-definition c.seen_part.result c.cue_part.result) (sym c.ne-other_part.ensures ∙ c.if-other_part.false) ∙ c.cue_part.ensures)
    (sym (given live window (λ (w : WindowState). w.attributes) c.attributes.result c.requires.live c.attributes.ensures)
    ∙ told_same _ (Decides-attributes c.attributes.result c.attributes_of.result) (sym c.ne-other_attributes.ensures ∙ c.if-other_attributes.false) ∙ c.attributes_of.ensures)
    (c.has_other_cell.ensures.same same)
