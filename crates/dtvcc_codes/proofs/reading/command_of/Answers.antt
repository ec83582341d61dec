use Rattle.dtvcc_codes.proofs.ReadingLemmas.{command_of-extended, command_of-base}
use Rattle.dtvcc_codes.proofs.reading.command_of.Goals as goal

pub returns-then-code-eq-EXT1-clause-says : goal.returns-then-code-eq-EXT1-clause-says
returns-then-code-eq-EXT1-clause-says c =
    command_of-extended c.args.bytes.now c.extended_command.result c.in-len1-up.len_at_least c.if-code-eq-EXT1.true c.extended_command.ensures.says

pub returns-else-code-eq-EXT1-clause-says : goal.returns-else-code-eq-EXT1-clause-says
returns-else-code-eq-EXT1-clause-says c =
    command_of-base c.args.bytes.now c.base_command.result c.in-len1-up.len_at_least c.if-code-eq-EXT1.false c.base_command.ensures.says
