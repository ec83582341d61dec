use Rattle.time_codes.proofs.InEachCount.{counted_in, counts_in}
use Rattle.time_codes.proofs.laws.frames_count_time_codes_in_each_count.Goals as goal

pub returns-clause-counts : goal.returns-clause-counts
returns-clause-counts c = counts_in

pub returns-clause-counted : goal.returns-clause-counted
returns-clause-counted c = counted_in
