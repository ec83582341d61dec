use Rattle.std.proofs.Common.{◌≡◌, ◌∙◌, get_or, Some, ap}
use Rattle.cue_lists.specs.declared.cue.Cue.{Cue}
use Rattle.cue_fit.specs.Shown.{takes_place}
use Rattle.dual_fit.proofs.TimedLemmas.{takes_is, takes_none}
use Rattle.dual_fit.proofs.timed.takes_former.Goals as goal

pub returns-in-Some : goal.returns-in-Some
returns-in-Some c =
    let is : c.index-cues-index.result ≡ get_or c.args.cues.now c.in-Some.index c.index-cues-index.result = c.index-cues-index.is in
    c.takes_place.ensures ∙ ap (λ (former : Cue). takes_place c.args.cue.now (Some former)) is
    ∙ takes_is c.args.cue.now c.args.cues.now c.in-Some.index c.in-Some.ensures c.index-cues-index.result

pub returns-in-None : goal.returns-in-None
returns-in-None c = takes_none c.args.cue.now c.args.cues.now c.in-None.ensures
