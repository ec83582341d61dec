use Rattle.lost.proofs.NumberLemmas.{frames_numbered, missing_counted}
use Rattle.lost.proofs.laws.frames_are_numbered.Goals as goal

pub returns-clause-numbers : goal.returns-clause-numbers
returns-clause-numbers c = frames_numbered

pub returns-clause-missing : goal.returns-clause-missing
returns-clause-missing c = missing_counted
