use Rattle.std.proofs.Common.{drop, ap, ◌∙◌, arith}
use Rattle.std.proofs.lemmas.List.{drop_all}
use Rattle.dual_plans.specs.PlacedUnits.{units_in}
use Rattle.dual_plans.proofs.PlacedUnitsLemmas.{nothing_left, none_placed}
use Rattle.dual_plans.proofs.placed_units.units_in.Goals.{else-loop-index-test, then-loop-index-test+else-index-places}
use Rattle.dual_plans.proofs.placed_units.units_in.Goals as goal

pub returns : goal.returns
returns c = elim c.loop-index-test.branch [
  | then-loop-index-test+else-index-places w ↦
      nothing_left c.loop-index.units.items (units_in (drop c.loop-index.index c.args.parts.now) (drop c.loop-index.index c.args.places.now)) (units_in c.args.parts.now c.args.places.now)
      (ap (λ places. units_in (drop c.loop-index.index c.args.parts.now) places) (drop_all c.loop-index.index c.args.places.now (omega (arith, w.if-index-places.false)))
      ∙ none_placed (drop c.loop-index.index c.args.parts.now))
      c.loop-index.invariant
  | else-loop-index-test w ↦
      nothing_left c.loop-index.units.items (units_in (drop c.loop-index.index c.args.parts.now) (drop c.loop-index.index c.args.places.now)) (units_in c.args.parts.now c.args.places.now)
      (ap (λ parts. units_in parts (drop c.loop-index.index c.args.places.now)) (drop_all c.loop-index.index c.args.parts.now (omega (arith, w.loop-index-test.false))))
      c.loop-index.invariant
]
