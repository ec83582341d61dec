use Rattle.std.proofs.Common.{[]}
use Rattle.anc_words.proofs.WordsFileLemmas.{IsWordsFile-nil}
use Rattle.words_files.specs.Frames.{none}
use Rattle.words_files.proofs.OffenceLemmas.{file_under_never}
use Rattle.carriage_tests.proofs.words.no_bytes_are_a_file.Goals as goal

pub returns : goal.returns
returns c = file_under_never [] [] (record { packets = []; file = IsWordsFile-nil; carried = none })
