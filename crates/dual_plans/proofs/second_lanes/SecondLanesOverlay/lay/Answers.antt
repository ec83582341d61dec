use Rattle.std.proofs.Common.{refl}
use Rattle.dual_plans.proofs.LanesLemmas.{next_both}
use Rattle.dual_plans.proofs.second_lanes.SecondLanesOverlay.lay.Goals as goal

pub returns-clause-makes : goal.returns-clause-makes
returns-clause-makes c firsts columns frame makes bytes_are =
    next_both firsts columns frame c.args.self.now _ c.args.bytes _ _ c.of-one.result c.of-two.result makes bytes_are
    c.of-one.ensures c.of-two.ensures c.beside.ensures.pair c.beside-2.ensures.pair c.beside.ensures.lane c.beside-2.ensures.lane refl refl
