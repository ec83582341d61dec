use Rattle.std.proofs.Common.{◌≡◌, ◌-◌, length, subst, arith}
use Rattle.service_blocks.specs.ServiceBlocks.{AreBlocks}
use Rattle.service_blocks.specs.Written.{block_for, block_written}
use Rattle.service_blocks.proofs.WrittenLemmas.{Says-block_for, written_before, written_first}
use Rattle.service_blocks.proofs.laws.written_is_read_back.Goals as goal

pub returns-clause-says : goal.returns-clause-says
returns-clause-says c = λ service bytes least most some few. (Says-block_for service bytes least most some few).says

pub returns-clause-block : goal.returns-clause-block
returns-clause-block c = written_before

pub returns-clause-read : goal.returns-clause-read
returns-clause-read c = λ service bytes room blocks rest least most some few are.
    let first = written_first service bytes room blocks rest least most some few are in
    let less : room - 1 - length (block_for service bytes).rest ≡ room - length (block_written service bytes) = omega arith in
    (first.others, first.first, subst (λ n. AreBlocks n first.others rest) less first.behind)
