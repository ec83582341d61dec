use Rattle.std.proofs.Common.{◌≡◌, IfOk, rules}
use Rattle.dual_plans.specs.Clashes.{list_events}
use Rattle.dual_plans.proofs.CueEventLemmas.{made_ordered}
use Rattle.dual_plans.proofs.clash.list_events.Goals as goal

pub returns-clause-order : goal.returns-clause-order
returns-clause-order c =
    let is : IfOk c.cue_events.result (λ events. events.items ≡ list_events c.args.list.now c.args.channel) = search rules in
    made_ordered c.args.list.now c.args.channel c.cue_events.result c.requires is
