use Rattle.std.proofs.Common.{[], ◌∷◌, refl}
use Rattle.cue_lists.specs.Rules.Tests.{verdicts}
use Rattle.cue_lists.proofs.RulesSaid.{faultless_ruled, faulty_has}
use Rattle.cue_lists.proofs.rules.examples.delay_kept_clear.Goals as goal

pub returns : goal.returns
unfolding verdicts
returns c = record {
  clear = faultless_ruled _ (refl, (refl, tt));
  covered = faulty_has _ _ (record { earlier = _ ∷ []; cue = _; later = []; split = refl; kept = (refl, tt); broken = refl });
  covering = faulty_has _ _ (record { earlier = _ ∷ []; cue = _; later = []; split = refl; kept = (refl, tt); broken = refl });
  together = faulty_has _ _ (record { earlier = _ ∷ []; cue = _; later = []; split = refl; kept = (refl, tt); broken = refl });
}
