use Rattle.std.proofs.Common.{arith}
use Rattle.rate_convert.proofs.halved_laws.delays_are_twice.Goals as goal

pub returns : goal.returns
returns c tenths few = omega arith
