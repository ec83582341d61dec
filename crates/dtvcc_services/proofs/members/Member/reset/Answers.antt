use Rattle.std.proofs.Common.{◌∙◌, sym}
use Rattle.dtvcc_screen.specs.Cores.{clean}
use Rattle.dtvcc_services.proofs.PassLemmas.{unseen}
use Rattle.dtvcc_services.proofs.members.Member.reset.Goals as goal

pub invariant_of-self : goal.invariant_of-self
invariant_of-self c = record { clean = λ unused. c.take_changed-seen.ensures.stands clean c.reset.ensures.clean }

pub returns-clause-same : goal.returns-clause-same
returns-clause-same c = λ none.
    unseen c.args.self.now.core c.reset.new.self c.take_changed-seen.new.self c.reset.ensures.noted
    (sym c.take_changed-seen.ensures.told ∙ none) c.take_changed-seen.ensures.screen
