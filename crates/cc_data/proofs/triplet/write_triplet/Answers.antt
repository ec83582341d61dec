use Rattle.std.proofs.Common.{subst, sym, arith}
use Rattle.std.proofs.lemmas.Grind.{common_steps}
use Rattle.cc_data.specs.Triplets.{IsTriplet}
use Rattle.cc_data.proofs.TripletLemmas.{written-is_triplet}
use Rattle.cc_data.proofs.triplet.write_triplet.Goals as goal

pub returns-clause-bytes : goal.returns-clause-bytes
returns-clause-bytes c = grind (arith, common_steps)

pub returns-clause-triplet : goal.returns-clause-triplet
returns-clause-triplet c =
    subst (λ bytes. IsTriplet c.args.t bytes) (sym (returns-clause-bytes c)) (written-is_triplet c.args.t c.requires)
