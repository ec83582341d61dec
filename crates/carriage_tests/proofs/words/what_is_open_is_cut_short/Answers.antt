use Rattle.std.proofs.Common.{refl}
use Rattle.carriage_tests.proofs.WordExamples.{is_cut_short}
use Rattle.carriage_tests.proofs.words.what_is_open_is_cut_short.Goals as goal

pub returns-clause-half : goal.returns-clause-half
returns-clause-half c = is_cut_short _ refl refl refl

pub returns-clause-flag : goal.returns-clause-flag
returns-clause-flag c = is_cut_short _ refl refl refl

pub returns-clause-packet : goal.returns-clause-packet
unfolding lib.Count.ones
returns-clause-packet c = is_cut_short _ refl refl refl
