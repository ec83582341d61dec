use Rattle.cc_base.proofs.ReadingLemmas.{HasRefused-from}
use Rattle.cc_base.proofs.laws.refusals_are_of_the_first_refused_item.Goals as goal

pub returns : goal.returns
returns g c = HasRefused-from
