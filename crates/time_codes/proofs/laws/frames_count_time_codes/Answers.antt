use Rattle.time_codes.proofs.CountLemmas.{counted, counts}
use Rattle.time_codes.proofs.laws.frames_count_time_codes.Goals as goal

pub returns-clause-counts : goal.returns-clause-counts
returns-clause-counts c = counts

pub returns-clause-counted : goal.returns-clause-counted
returns-clause-counted c = counted
