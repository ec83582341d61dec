use Rattle.std.proofs.Common.{[], ◌∷◌, refl}
use Rattle.cue_lists.specs.Rules.Tests.{verdicts}
use Rattle.cue_lists.proofs.RulesSaid.{faulty_has}
use Rattle.cue_lists.proofs.rules.examples.former_of_its_channel.Goals as goal

pub returns : goal.returns
unfolding verdicts
returns c = faulty_has _ _ (record { earlier = _ ∷ _ ∷ []; cue = _; later = []; split = refl; kept = (refl, (refl, tt)); broken = refl })
