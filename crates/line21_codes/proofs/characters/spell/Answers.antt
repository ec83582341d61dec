use Rattle.line21_codes.proofs.CharacterLemmas.{shown_by, none_by}
use Rattle.line21_codes.proofs.characters.spell.Goals as goal

pub returns-clause-shown : goal.returns-clause-shown
returns-clause-shown c = shown_by c.args.ch c.first_spelling.result c.first_spelling.ensures

pub returns-clause-none : goal.returns-clause-none
returns-clause-none c = none_by c.args.ch c.first_spelling.result c.first_spelling.ensures
