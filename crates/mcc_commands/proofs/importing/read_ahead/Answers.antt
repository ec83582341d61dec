use Rattle.mcc_commands.proofs.ImportLineLemmas.{line_behind}
use Rattle.mcc_commands.proofs.importing.read_ahead.Goals as goal

pub returns-in-Some-clause-line : goal.returns-in-Some-clause-line
returns-in-Some-clause-line c before placed was lines =
    line_behind before placed c.args.bytes.now c.in-Some.count c.args.reader.now c.read_line_behind.new.self was lines c.in-Some.ensures
