use Rattle.converted_lists.proofs.GoodStreamLemmas.{streams_good}
use Rattle.converted_lists.proofs.laws.law_of_good_streams.Goals as goal

pub returns : goal.returns
returns c = streams_good
