use Rattle.std.proofs.Common.{subst, sym}
use Rattle.std.specs.List.{flat_map}
use Rattle.cdp_packets.specs.PacketTriplets.{section_triplets}
use Rattle.cc_receiver.specs.Counting.{with_more}
use Rattle.cc_receiver.specs.TripletLists.{HasTriplets}
use Rattle.cc_receiver.proofs.CountingLemmas.{with_more-append}
use Rattle.cc_receiver.proofs.FilledLemmas.{way_begun, way_ended, way_next}
use Rattle.cc_receiver.proofs.triplets.Triplets.take_sections.Goals as goal

pub loop-section-init : goal.loop-section-init
loop-section-init c triplets cut are joined has = way_begun cut c.args.sections.now (λ ts. HasTriplets (with_more triplets ts) c.args.self.now) are joined has

pub loop-section-preserved : goal.loop-section-preserved
loop-section-preserved c triplets cut are joined has =
    way_next (flat_map section_triplets cut) c.loop-section.rest.now c.in-Some.section.now c.in-Some.behind.now
    (λ ts. HasTriplets (with_more triplets ts) c.loop-section.self) (λ ts. HasTriplets (with_more triplets ts) c.take_bytes.new.self)
    (c.loop-section.invariant triplets cut are joined has) c.in-Some.ensures.section c.in-Some.ensures.whole
    (λ ts had. subst (λ all. HasTriplets all c.take_bytes.new.self) (sym (with_more-append triplets ts (section_triplets c.in-Some.section.now)))
    (subst (λ more. HasTriplets (with_more (with_more triplets ts) more) c.take_bytes.new.self) c.triplet_bytes.ensures.triplets (c.take_bytes.ensures (with_more triplets ts) had)))

pub returns : goal.returns
returns c triplets cut are joined has =
    way_ended (flat_map section_triplets cut) c.loop-section.rest.now (λ ts. HasTriplets (with_more triplets ts) c.loop-section.self)
    (c.loop-section.invariant triplets cut are joined has) c.in_default.ensures.none
