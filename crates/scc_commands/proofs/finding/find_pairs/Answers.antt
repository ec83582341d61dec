use Rattle.std.proofs.Common.{◌∙◌, ◌<◌, ◌≤◌, ap, arith, length}
use Rattle.scc_commands.proofs.WrittenLemmas.{pairs_counted}
use Rattle.scc_commands.proofs.finding.find_pairs.Goals as goal

pub returns-then-pairs-gt1 : goal.returns-then-pairs-gt1
returns-then-pairs-gt1 c bytes earlier last had are at_rate =
    let counted = pairs_counted last _ _ c.min-pairs.result (ap length (c.pairs_one.ensures bytes earlier last had are))
    (c.from.ensures ∙ c.triplet_count.ensures bytes earlier last had are) c.min-pairs.ensures in
    let more : 1 < c.min-pairs.result = c.if-pairs-gt1.true in (at_rate, counted, omega arith)

pub returns-else-pairs-gt1 : goal.returns-else-pairs-gt1
returns-else-pairs-gt1 c bytes earlier last had are at_rate =
    let counted = pairs_counted last _ _ c.min-pairs.result (ap length (c.pairs_one.ensures bytes earlier last had are))
    (c.from.ensures ∙ c.triplet_count.ensures bytes earlier last had are) c.min-pairs.ensures in
    let few : c.min-pairs.result ≤ 1 = c.if-pairs-gt1.false in record { rate_is = at_rate; one = omega arith }
