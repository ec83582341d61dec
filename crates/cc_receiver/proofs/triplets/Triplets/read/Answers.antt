use Rattle.std.proofs.Common.{[], length, ap, subst, arith}
use Rattle.std.specs.List.{flat_map}
use Rattle.cdp_packets.specs.PacketTriplets.{section_triplets}
use Rattle.cc_receiver.specs.TripletLists.{HasTriplets}
use Rattle.cc_receiver.proofs.CountingLemmas.{all_kept}
use Rattle.cc_receiver.proofs.FilledLemmas.{sections_few}
use Rattle.cc_receiver.proofs.triplets.Triplets.read.Goals as goal

pub returns : goal.returns
returns c cut are joined few =
    let fits = sections_few cut are in
    let long = ap length joined in
    subst (λ ts. HasTriplets ts c.take_sections.new.self) (all_kept [] (flat_map section_triplets cut) (omega (arith, few, fits, long)))
    (c.take_sections.ensures [] cut are joined c.clear.ensures.none)
