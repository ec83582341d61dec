use Rattle.std.proofs.Common.{length, arith}
use Rattle.service_blocks.proofs.BlockLemmas.{blocks_are, blocks_read}
use Rattle.service_blocks.proofs.laws.blocks_are_read.Goals as goal

pub returns-clause-read : goal.returns-clause-read
returns-clause-read c = λ room blocks bytes are fits. let read = blocks_read room blocks bytes are fits in (read.behind, read.reads)

pub returns-clause-blocks : goal.returns-clause-blocks
returns-clause-blocks c = λ room bytes fits taken. blocks_are (length bytes) room bytes (omega arith) fits taken
