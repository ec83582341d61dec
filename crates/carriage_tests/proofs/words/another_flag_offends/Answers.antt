use Rattle.std.proofs.Common.{refl}
use Rattle.carriage_tests.proofs.WordExamples.{offends}
use Rattle.carriage_tests.proofs.words.another_flag_offends.Goals as goal

pub returns : goal.returns
returns c = offends _ _ refl refl
