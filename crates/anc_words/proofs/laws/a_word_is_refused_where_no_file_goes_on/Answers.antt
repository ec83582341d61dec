use Rattle.anc_words.proofs.ByteLemmas.{begins_file, begins_no_file}
use Rattle.anc_words.proofs.laws.a_word_is_refused_where_no_file_goes_on.Goals as goal

pub returns-clause-begun : goal.returns-clause-begun
returns-clause-begun c = begins_file

pub returns-clause-refused : goal.returns-clause-refused
returns-clause-refused c = begins_no_file
