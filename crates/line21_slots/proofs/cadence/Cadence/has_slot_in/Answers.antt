use Rattle.line21_slots.specs.declared.cadence.Cadence.TheVariants.{EveryFrame, EvenFrames, OddFrames}
use Rattle.line21_slots.proofs.CadenceLemmas.{has_slot_exactly}
use Rattle.line21_slots.proofs.cadence.Cadence.has_slot_in.Goals as goal

pub returns-in-EveryFrame-clause-exact : goal.returns-in-EveryFrame-clause-exact
returns-in-EveryFrame-clause-exact c = has_slot_exactly c.args.self EveryFrame c.args.frame c.in-EveryFrame.is

pub returns-in-EvenFrames-clause-exact : goal.returns-in-EvenFrames-clause-exact
returns-in-EvenFrames-clause-exact c = has_slot_exactly c.args.self EvenFrames c.args.frame c.in-EvenFrames.is

pub returns-in-OddFrames-clause-exact : goal.returns-in-OddFrames-clause-exact
returns-in-OddFrames-clause-exact c = has_slot_exactly c.args.self OddFrames c.args.frame c.in-OddFrames.is
