use Rattle.line21_codes.proofs.CharacterLemmas.{spelling_of-shows, spelling_of-none}
use Rattle.line21_codes.proofs.laws.spelled_is_shown.Goals as goal

pub returns-clause-shown : goal.returns-clause-shown
returns-clause-shown c = spelling_of-shows

pub returns-clause-none : goal.returns-clause-none
returns-clause-none c = spelling_of-none
