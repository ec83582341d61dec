use Rattle.std.proofs.Common.{◌≡◌, ◌-◌, ◌++◌, ◌<◌, [], ◌∷◌, arith, length, replicate, sym, subst}
use Rattle.cc_data.specs.Triplets.{filler}
use Rattle.frame_carrier.proofs.CarryingLemmas.{fill_more}
use Rattle.frame_carrier.proofs.triplets.fill.Goals as goal

pub loop-triplets-preserved : goal.loop-triplets-preserved
loop-triplets-preserved c =
    let old = c.loop-triplets.triplets.items in
    let more : c.push.new.self.items ≡ old ++ filler ∷ [] = c.push.ensures.items in
    let low : length old < c.args.number = omega (arith, c.loop-triplets-test.true, c.len.ensures.value, c.from.ensures) in
    let w = fill_more old c.args.number (c.args.triplets.now.items ++ replicate (c.args.number - length c.args.triplets.now.items) filler) low c.loop-triplets.invariant in
    subst (λ items. items ++ replicate (c.args.number - length items) filler
    ≡ c.args.triplets.now.items ++ replicate (c.args.number - length c.args.triplets.now.items) filler) (sym more) w.1
