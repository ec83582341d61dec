use Rattle.words_files.proofs.OffenceLemmas.{file_under_never, never_refuses, never_takes}
use Rattle.words_files.proofs.laws.no_layer_above_takes_all.Goals as goal

pub returns-clause-filling : goal.returns-clause-filling
returns-clause-filling c = never_takes

pub returns-clause-all : goal.returns-clause-all
returns-clause-all c = never_refuses

pub returns-clause-file : goal.returns-clause-file
returns-clause-file c = file_under_never
