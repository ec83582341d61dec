use Rattle.std.proofs.Common.{refl}
use Rattle.carriage_tests.proofs.WordExamples.{offends}
use Rattle.carriage_tests.proofs.words.high_bits_offend.Goals as goal

pub returns-clause-first : goal.returns-clause-first
returns-clause-first c = offends _ _ refl refl

pub returns-clause-later : goal.returns-clause-later
returns-clause-later c = offends _ _ refl refl
