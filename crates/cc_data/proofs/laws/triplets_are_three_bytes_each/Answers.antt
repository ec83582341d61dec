use Rattle.cc_data.proofs.TripletLemmas.{length-triplets, triplets-append, read-are_triplets}
use Rattle.cc_data.proofs.laws.triplets_are_three_bytes_each.Goals as goal

pub returns-clause-length : goal.returns-clause-length
returns-clause-length c = length-triplets

pub returns-clause-joined : goal.returns-clause-joined
returns-clause-joined c = triplets-append

pub returns-clause-read : goal.returns-clause-read
returns-clause-read c = read-are_triplets
