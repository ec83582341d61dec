use Rattle.std.proofs.Common.{arith}
use Rattle.lanes.proofs.placing.Placing.place_cue.Goals as goal

pub loop-self-preserved : goal.loop-self-preserved
loop-self-preserved c = record {
  from = omega (arith, c.loop-self.invariant.from, c.in_default.ensures.units, c.fill.ensures.units);
  within = c.fill.ensures.within;
  bytes = c.fill.ensures.bytes c.args.units.now c.lengths-lengths.ensures.lengths c.in_default.ensures.bytes;
  placed = λ chunks of_cue is.
      let here = c.loop-self.invariant.placed chunks of_cue is in
      let one = of_cue c.loop-self.self.last.units c.loop-self.invariant.from c.loop-self-test.true in
      c.fill.ensures.placed c.args.share c.args.captions.now chunks c.args.units.now c.args.cue c.lengths-lengths.ensures.lengths
      (record {
        kept = c.requires.kept;
        stand = c.in_default.ensures.stands chunks one here;
        of_cue = λ index low high. of_cue index (omega (arith, low, c.loop-self.invariant.from, c.in_default.ensures.units)) high;
      }) (c.in_default.ensures.placed chunks one here);
}

pub returns-in-Err-clause-fault : goal.returns-in-Err-clause-fault
returns-in-Err-clause-fault c chunks of_cue order is =
    c.in-Err.ensures.fault chunks (of_cue c.loop-self.self.last.units c.loop-self.invariant.from c.loop-self-test.true) order
    (c.loop-self.invariant.placed chunks of_cue is)
