use Rattle.std.proofs.Common.{List, arith, subst, sym, take}
use Rattle.std.proofs.lemmas.List.{take_all, take_more}
use Rattle.cc_data.specs.declared.triplet.Triplet.{Triplet}
use Rattle.rate_convert.specs.SortedTriplets.{AreSorted}
use Rattle.rate_convert.proofs.SortedLemmas.{channel_few, field_few}
use Rattle.line21_codes.specs.declared.channels.FieldNumber.TheVariants.{One, Two}
use Rattle.rate_convert.proofs.sorted.Sorted.of.Goals as goal

pub add-requires-clause-ones : goal.add-requires-clause-ones
add-requires-clause-ones c =
    field_few One c.loop-triplet.triplet-index c.args.triplets.now _ 20 c.loop-triplet.invariant.ones (omega (arith, c.loop-triplet-test.true, c.requires))

pub add-requires-clause-twos : goal.add-requires-clause-twos
add-requires-clause-twos c =
    field_few Two c.loop-triplet.triplet-index c.args.triplets.now _ 20 c.loop-triplet.invariant.twos (omega (arith, c.loop-triplet-test.true, c.requires))

pub add-requires-clause-channel : goal.add-requires-clause-channel
add-requires-clause-channel c =
    channel_few c.loop-triplet.triplet-index c.args.triplets.now _ 20 c.loop-triplet.invariant.channel (omega (arith, c.loop-triplet-test.true, c.requires))

pub loop-triplet-preserved : goal.loop-triplet-preserved
loop-triplet-preserved c =
    subst (λ (ts : List Triplet). AreSorted ts c.add.new.self) (sym (take_more c.args.triplets.now c.loop-triplet.triplet-index _ c.loop-triplet-test.true))
    (c.add.ensures (take c.loop-triplet.triplet-index c.args.triplets.now) c.loop-triplet.invariant)

pub returns : goal.returns
returns c =
    subst (λ (ts : List Triplet). AreSorted ts c.loop-triplet.sorted) (take_all c.loop-triplet.triplet-index c.args.triplets.now (omega arith)) c.loop-triplet.invariant
