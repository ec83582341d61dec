use Rattle.line21_shown.proofs.WritingLemmas.{runs_written}
use Rattle.line21_shown.proofs.laws.runs_are_written.Goals as goal

pub returns : goal.returns
returns c = runs_written
