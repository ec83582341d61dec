use Rattle.line21_codes.proofs.RepeatLemmas.{waits_first}
use Rattle.line21_codes.proofs.doubling.Doubler.new.Goals as goal

pub returns : goal.returns
returns c = waits_first
