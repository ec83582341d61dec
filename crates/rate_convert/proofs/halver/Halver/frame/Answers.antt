use Rattle.std.proofs.Common.{arith}
use Rattle.rate_convert.proofs.ConverterLemmas.{last_number}
use Rattle.rate_convert.proofs.halver.Halver.frame.Goals as goal

pub returns-in-Ok : goal.returns-in-Ok
returns-in-Ok c = λ bytes earlier last had are halved. c.in-Ok.ensures bytes earlier last had are halved

pub returns-in-Err : goal.returns-in-Err
returns-in-Err c = λ bytes earlier last had are halved.
    (last_number bytes earlier last c.args.input.now _ had are (omega arith), c.in-Err.ensures bytes earlier last had are halved)
