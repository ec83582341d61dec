use Rattle.line21_shown.proofs.ReadingLemmas.{columns_read}
use Rattle.line21_shown.proofs.laws.columns_are_read.Goals as goal

pub returns : goal.returns
returns c = columns_read
