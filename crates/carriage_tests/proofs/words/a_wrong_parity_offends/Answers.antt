use Rattle.std.proofs.Common.{refl}
use Rattle.carriage_tests.proofs.WordExamples.{offends}
use Rattle.carriage_tests.proofs.words.a_wrong_parity_offends.Goals as goal

pub returns : goal.returns
unfolding lib.Count.ones
returns c = offends _ _ refl refl
