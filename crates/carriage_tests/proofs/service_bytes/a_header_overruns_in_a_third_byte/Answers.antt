use Rattle.std.proofs.Common.{refl}
use Rattle.carriage_tests.proofs.ServiceExamples.{offends}
use Rattle.carriage_tests.proofs.service_bytes.a_header_overruns_in_a_third_byte.Goals as goal

pub returns : goal.returns
unfolding lib.Count.ones
returns c = offends _ _ refl refl
