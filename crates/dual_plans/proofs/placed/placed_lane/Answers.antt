use Rattle.std.proofs.Common.{refl}
use Rattle.dual_plans.proofs.PlacedLaneLemmas.{lane_made, ready}
use Rattle.dual_plans.proofs.placed.placed_lane.Goals as goal

pub of-requires : goal.of-requires
of-requires c =
    ready c.args.lane c.args.places.now c.in_ok-units.units.items (rw c.deref.ensures.value at c.in_ok-units.ensures) c.requires.stand c.requires.apart

pub returns-clause-lane : goal.returns-clause-lane
returns-clause-lane c =
    rw c.of.ensures
    (lane_made c.args.lane c.args.places.now c.in_ok-units.units.items (rw c.deref.ensures.value at c.in_ok-units.ensures) c.requires.stand
    (record { units = c.in_ok-units.units.items; events = c.args.lane.events.items; slot = 0 }) refl refl)
