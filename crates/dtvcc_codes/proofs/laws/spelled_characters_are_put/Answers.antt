use Rattle.dtvcc_codes.proofs.SpellableLemmas.{unspelled_is_not_put}
use Rattle.dtvcc_codes.proofs.WrittenLemmas.{spelling_is_written}
use Rattle.dtvcc_codes.proofs.laws.spelled_characters_are_put.Goals as goal

pub returns-clause-put : goal.returns-clause-put
returns-clause-put c = λ ch bytes is. (spelling_is_written ch bytes is).spells

pub returns-clause-none : goal.returns-clause-none
returns-clause-none c = unspelled_is_not_put
