use Rattle.std.specs.Prelude.{None}
use Rattle.scc_files.specs.Written.{counted, pairs_not_null, written_file}
use Rattle.scc_files.proofs.Complete.{file_read}
use Rattle.scc_files.proofs.RoundTrip.{written_is_file, written_is_placed}
use Rattle.scc_files.proofs.laws.written_files_are_files.Goals as goal

pub returns-clause-placed : goal.returns-clause-placed
returns-clause-placed c = written_is_placed

pub returns-clause-file : goal.returns-clause-file
returns-clause-file c = written_is_file

pub returns-clause-read : goal.returns-clause-read
returns-clause-read c pairs start drop_frame are =
    file_read None (counted (pairs_not_null pairs)) (written_file start drop_frame pairs) (written_is_file pairs start drop_frame are)
