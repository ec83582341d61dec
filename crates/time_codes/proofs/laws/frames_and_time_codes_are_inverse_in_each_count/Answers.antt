use Rattle.time_codes.proofs.InEachCount.{day_has_frame, time_again_in}
use Rattle.time_codes.proofs.laws.frames_and_time_codes_are_inverse_in_each_count.Goals as goal

pub returns-clause-time : goal.returns-clause-time
returns-clause-time c = time_again_in

pub returns-clause-day : goal.returns-clause-day
returns-clause-day c = day_has_frame
