use Rattle.std.proofs.Common.{◌∙◌, ◌++◌, ℕ, List, ap, arith, length}
use Rattle.rate_convert.proofs.HalvesLemmas.{half_size}
use Rattle.rate_convert.proofs.halves.put_half.Goals as goal

pub append-requires-clause-size : goal.append-requires-clause-size
append-requires-clause-size c = ap length c.write_half.ensures ∙ half_size c.args.counter c.args.triplets.now (omega arith)

pub returns-clause-bytes : goal.returns-clause-bytes
returns-clause-bytes c = c.append.ensures.bytes ∙ ap (λ (l : List ℕ). c.args.out.now.items ++ l) c.write_half.ensures
