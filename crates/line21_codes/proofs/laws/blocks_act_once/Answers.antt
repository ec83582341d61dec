use Rattle.line21_codes.proofs.RepeatLemmas.{blocks-first, blocks-second}
use Rattle.line21_codes.proofs.laws.blocks_act_once.Goals as goal

pub returns-clause-first : goal.returns-clause-first
returns-clause-first c = blocks-first

pub returns-clause-second : goal.returns-clause-second
returns-clause-second c = blocks-second
