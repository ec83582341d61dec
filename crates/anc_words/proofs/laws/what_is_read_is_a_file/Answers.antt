use Rattle.cc_base.proofs.SyntaxLemmas.{read_under-none}
use Rattle.anc_words.specs.Reading.{anc_syntax}
use Rattle.anc_words.proofs.ByteLemmas.{what_is_read_is_file}
use Rattle.anc_words.proofs.laws.what_is_read_is_a_file.Goals as goal

pub returns-clause-file : goal.returns-clause-file
returns-clause-file c = what_is_read_is_file

pub returns-clause-unrefused : goal.returns-clause-unrefused
returns-clause-unrefused c = read_under-none anc_syntax 2
