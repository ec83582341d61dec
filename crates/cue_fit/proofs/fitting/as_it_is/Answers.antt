use Rattle.std.proofs.Common.{◌∙◌}
use Rattle.cue_fit.proofs.FrontPlanLemmas.{kept_told}
use Rattle.cue_fit.proofs.fitting.as_it_is.Goals as goal

pub returns-in-Ok : goal.returns-in-Ok
returns-in-Ok c late = kept_told late c.args.list.now c.cues.ensures.formed c.requires c.in-Ok.cues.items c.with_cues.result (c.in-Ok.ensures ∙ c.cues.ensures.cues) c.with_cues.ensures
