use Rattle.std.proofs.Common.{◌∙◌, sym}
use Rattle.dtvcc_services.proofs.PassLemmas.{unseen}
use Rattle.dtvcc_services.proofs.members.Member.byte.Goals as goal

pub returns-clause-same : goal.returns-clause-same
returns-clause-same c = λ none.
    unseen c.args.self.now.core c.byte-full.new.self c.take_changed-seen.new.self c.byte-full.ensures.noted
    (sym c.take_changed-seen.ensures.told ∙ none) c.take_changed-seen.ensures.screen
