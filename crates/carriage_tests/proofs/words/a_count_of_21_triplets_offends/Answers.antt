use Rattle.std.proofs.Common.{refl}
use Rattle.carriage_tests.proofs.WordExamples.{offends}
use Rattle.carriage_tests.proofs.words.a_count_of_21_triplets_offends.Goals as goal

pub returns : goal.returns
unfolding lib.Count.ones
returns c = offends _ _ refl refl
