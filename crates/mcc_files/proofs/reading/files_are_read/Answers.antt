use Rattle.mcc_files.proofs.FileReads.{file_is_read}
use Rattle.mcc_files.proofs.OriginLemmas.{read_is_file}
use Rattle.mcc_files.proofs.reading.files_are_read.Goals as goal

pub returns-clause-read : goal.returns-clause-read
returns-clause-read c = file_is_read

pub returns-clause-files : goal.returns-clause-files
returns-clause-files c = read_is_file
