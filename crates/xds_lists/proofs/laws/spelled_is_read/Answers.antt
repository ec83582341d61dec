use Rattle.xds_lists.proofs.ReadLemmas.{spelled_is_read}
use Rattle.xds_lists.proofs.laws.spelled_is_read.Goals as goal

pub returns : goal.returns
returns c = spelled_is_read
