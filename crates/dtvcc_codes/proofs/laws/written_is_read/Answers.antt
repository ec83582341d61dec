use Rattle.dtvcc_codes.proofs.WrittenLemmas.{written_are_bytes, written_is}
use Rattle.dtvcc_codes.proofs.laws.written_is_read.Goals as goal

pub returns-clause-spells : goal.returns-clause-spells
returns-clause-spells c = λ command fits said. (written_is command fits said).spells

pub returns-clause-bytes : goal.returns-clause-bytes
returns-clause-bytes c = written_are_bytes
