use Rattle.std.proofs.Common.{[], refl}
use Rattle.cue_lists.specs.Rules.Tests.{verdicts}
use Rattle.cue_lists.proofs.RulesSaid.{faultless_ruled, faulty_has}
use Rattle.cue_lists.proofs.rules.examples.window_in_its_list.Goals as goal

pub returns : goal.returns
unfolding verdicts
returns c = record {
  unshared = faulty_has _ _ (record { earlier = []; cue = _; later = []; split = refl; kept = tt; broken = refl });
  last = faultless_ruled _ (refl, tt);
  behind = faulty_has _ _ (record { earlier = []; cue = _; later = []; split = refl; kept = tt; broken = refl });
}
