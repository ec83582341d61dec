use Rattle.std.proofs.Common.{refl}
use Rattle.cue_lists.specs.Rules.Tests.{verdicts}
use Rattle.cue_lists.proofs.RulesSaid.{faultless_ruled}
use Rattle.cue_lists.proofs.rules.examples.two_cues_in_order.Goals as goal

pub returns : goal.returns
unfolding verdicts
returns c = faultless_ruled _ (refl, (refl, tt))
