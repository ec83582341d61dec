use Rattle.words_files.proofs.OpenLemmas.{open_exists, open_once}
use Rattle.words_files.proofs.laws.the_reader_keeps_the_open_words.Goals as goal

pub returns-clause-kept : goal.returns-clause-kept
returns-clause-kept c = open_exists

pub returns-clause-one : goal.returns-clause-one
returns-clause-one c = open_once
