use Rattle.rate_convert.proofs.ConvertedFileLemmas.{converted_file}
use Rattle.rate_convert.proofs.halved_laws.law_of_converted_files.Goals as goal

pub returns : goal.returns
returns c = converted_file
