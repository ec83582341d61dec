use Rattle.std.proofs.Common.{refl}
use Rattle.carriage_tests.proofs.service_bytes.each_service_is_given_its_bytes.Goals as goal

pub returns-clause-first : goal.returns-clause-first
returns-clause-first c = refl

pub returns-clause-second : goal.returns-clause-second
returns-clause-second c = refl
