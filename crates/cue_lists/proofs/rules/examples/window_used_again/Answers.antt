use Rattle.std.proofs.Common.{[], ◌∷◌, refl}
use Rattle.cue_lists.specs.Rules.Tests.{verdicts}
use Rattle.cue_lists.proofs.RulesSaid.{faultless_ruled, faulty_has}
use Rattle.cue_lists.proofs.rules.examples.window_used_again.Goals as goal

pub returns : goal.returns
unfolding verdicts
returns c = record {
  vacated = faultless_ruled _ (refl, (refl, tt));
  busy = faulty_has _ _ (record { earlier = _ ∷ []; cue = _; later = []; split = refl; kept = (refl, tt); broken = refl });
}
