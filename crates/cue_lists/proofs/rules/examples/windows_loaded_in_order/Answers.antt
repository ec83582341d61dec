use Rattle.std.proofs.Common.{[], ◌∷◌, refl}
use Rattle.cue_lists.specs.Rules.Tests.{verdicts}
use Rattle.cue_lists.proofs.RulesSaid.{faulty_has}
use Rattle.cue_lists.proofs.rules.examples.windows_loaded_in_order.Goals as goal

pub returns : goal.returns
unfolding verdicts
returns c = record {
  started = faulty_has _ _ (record { earlier = []; cue = _; later = []; split = refl; kept = tt; broken = refl });
  loaded = faulty_has _ _ (record { earlier = _ ∷ []; cue = _; later = []; split = refl; kept = (refl, tt); broken = refl });
}
