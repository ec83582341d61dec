use Rattle.cc_data.proofs.TripletLemmas.{written-is_triplet, all_written-are}
use Rattle.cc_data.proofs.laws.written_is_read.Goals as goal

pub returns-clause-triplet : goal.returns-clause-triplet
returns-clause-triplet c = written-is_triplet

pub returns-clause-list : goal.returns-clause-list
returns-clause-list c = all_written-are
