use Rattle.cc_base.specs.Syntax.{open_behind}
use Rattle.dtvcc_codes.specs.Reading.{command_syntax}
use Rattle.dtvcc_codes.proofs.CutLemmas.{completed_is_spelled, open_behind-is, spelled_is_completed, spelling_completes}
use Rattle.dtvcc_codes.proofs.laws.a_spelling_is_completed_by_its_last_byte.Goals as goal

pub returns-clause-completed : goal.returns-clause-completed
returns-clause-completed c = λ bytes byte command are is.
    (completed_is_spelled (open_behind command_syntax bytes) byte command (open_behind-is bytes are) is, spelled_is_completed (open_behind command_syntax bytes) byte command)

pub returns-clause-spelling : goal.returns-clause-spelling
returns-clause-spelling c = λ command bytes spells. (spelling_completes command bytes spells).completions_are

pub returns-clause-closed : goal.returns-clause-closed
returns-clause-closed c = λ command bytes spells. (spelling_completes command bytes spells).ends
