use Rattle.std.proofs.Common.{inl, inr}
use Rattle.words_files.proofs.EndingLemmas.{cut_short_has_no_offence, each_ends, file_has_no_offence}
use Rattle.words_files.specs.Verdicts.{layers_of}
use Rattle.words_files.proofs.laws.every_input_is_a_file_or_cut_short_or_offends.Goals as goal

pub returns-clause-each : goal.returns-clause-each
returns-clause-each c = each_ends

pub returns-clause-file : goal.returns-clause-file
returns-clause-file c = λ verdict frames bytes refused file other. elim other [
  | inl cut ↦ cut.no_file frames file
  | inr offence ↦ file_has_no_offence (layers_of verdict) frames bytes refused file offence
]

pub returns-clause-cut_short : goal.returns-clause-cut_short
returns-clause-cut_short c = λ v. cut_short_has_no_offence (layers_of v)
