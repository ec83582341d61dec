use Rattle.dual_fields.proofs.OwnLemmas.{channels_own}
use Rattle.dual_fields.proofs.laws.channels_are_own.Goals as goal

pub returns : goal.returns
returns c = channels_own
