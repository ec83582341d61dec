use Rattle.line21_shown.proofs.ReadingLemmas.{fields_read}
use Rattle.line21_shown.proofs.laws.fields_are_read.Goals as goal

pub returns : goal.returns
returns c = fields_read
