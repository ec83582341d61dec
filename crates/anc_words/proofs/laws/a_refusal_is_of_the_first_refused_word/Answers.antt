use Rattle.anc_words.proofs.RefusedLemmas.{HasRefusedWord-from}
use Rattle.anc_words.proofs.laws.a_refusal_is_of_the_first_refused_word.Goals as goal

pub returns : goal.returns
returns c = HasRefusedWord-from
