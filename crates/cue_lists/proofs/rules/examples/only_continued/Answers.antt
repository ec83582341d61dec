use Rattle.std.proofs.Common.{[], ◌∷◌, refl}
use Rattle.cue_lists.specs.Rules.Tests.{verdicts}
use Rattle.cue_lists.proofs.RulesSaid.{faultless_ruled, faulty_has}
use Rattle.cue_lists.proofs.rules.examples.only_continued.Goals as goal

pub returns : goal.returns
unfolding verdicts
returns c = record { chain = faultless_ruled _ (refl, (refl, tt)); rows = faulty_has _ _ (record { earlier = _ ∷ []; cue = _; later = []; split = refl; kept = (refl, tt); broken = refl }) }
