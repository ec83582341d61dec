use Rattle.std.proofs.Common.{◌∙◌, sym}
use Rattle.dtvcc_services.proofs.PassLemmas.{unseen}
use Rattle.dtvcc_services.proofs.members.Member.tick.Goals as goal

pub returns-clause-same : goal.returns-clause-same
returns-clause-same c = λ none.
    unseen c.args.self.now.core c.tick.new.self c.take_changed.new.self c.tick.ensures.noted
    (sym c.take_changed.ensures.told ∙ none) c.take_changed.ensures.screen
