use Rattle.cc_base.proofs.ReadingLemmas.{reading-append}
use Rattle.cc_base.proofs.laws.law_of_pieces.Goals as goal

pub returns : goal.returns
returns g c = reading-append
