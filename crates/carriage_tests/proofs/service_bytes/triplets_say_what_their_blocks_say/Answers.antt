use Rattle.std.proofs.Common.{refl}
use Rattle.carriage_tests.proofs.service_bytes.triplets_say_what_their_blocks_say.Goals as goal

pub returns-clause-all : goal.returns-clause-all
returns-clause-all c = refl

pub returns-clause-behind : goal.returns-clause-behind
returns-clause-behind c = refl
