use Rattle.std.proofs.Common.{arith}
use Rattle.line21_codes.proofs.PreambleLemmas.{row_bytes-first, row_bytes-second}
use Rattle.line21_codes.proofs.writing.row_bytes_of.Goals as goal

pub returns-clause-first : goal.returns-clause-first
returns-clause-first c = row_bytes-first c.from.result (omega arith)

pub returns-clause-second : goal.returns-clause-second
returns-clause-second c = row_bytes-second c.from.result (omega arith)
