use Rattle.line21_codes.proofs.CodeLemmas.{skipped-listed}
use Rattle.line21_codes.proofs.laws.skipped_pairs_are_listed.Goals as goal

pub returns : goal.returns
returns c = skipped-listed
