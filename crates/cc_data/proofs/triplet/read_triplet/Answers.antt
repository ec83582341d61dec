use Rattle.std.proofs.Common.{arith, rules}
use Rattle.cc_data.proofs.TripletLemmas.{read-is_triplet-list}
use Rattle.cc_data.proofs.triplet.read_triplet.Goals as goal

pub returns-clause-triplet : goal.returns-clause-triplet
returns-clause-triplet c = read-is_triplet-list c.args.bytes (search rules) (omega arith)
