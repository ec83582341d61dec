use Rattle.std.proofs.Common.{◌≡◌, ◌∙◌, get_or, Some, ap}
use Rattle.cue_lists.specs.declared.cue.Cue.{Cue}
use Rattle.cue_fit.specs.Shown.{load_after}
use Rattle.dual_fit.proofs.TimedLemmas.{first_load, load_is}
use Rattle.dual_fit.proofs.timed.load_after_all.Goals as goal

pub returns-in-Some : goal.returns-in-Some
returns-in-Some c =
    let is : c.index-cues-index.result ≡ get_or c.args.cues.now c.in-Some.index c.index-cues-index.result = c.index-cues-index.is in
    c.load_after.ensures ∙ ap (λ (former : Cue). load_after c.args.cue.now (Some former)) is
    ∙ load_is c.args.cue.now c.args.cues.now c.in-Some.index c.in-Some.ensures c.index-cues-index.result

pub returns-in-None : goal.returns-in-None
returns-in-None c = first_load c.args.cue.now c.args.cues.now c.in-None.ensures
