use Rattle.cc_data.proofs.TripletLemmas.{triplets_of-triplets}
use Rattle.cc_data.proofs.laws.bytes_are_one_triplet.Goals as goal

pub returns-clause-list : goal.returns-clause-list
returns-clause-list c = triplets_of-triplets
