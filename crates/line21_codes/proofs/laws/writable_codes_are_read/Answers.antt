use Rattle.line21_codes.proofs.CodeLemmas.{writable_iff_readable}
use Rattle.line21_codes.proofs.laws.writable_codes_are_read.Goals as goal

pub returns : goal.returns
returns c = writable_iff_readable
