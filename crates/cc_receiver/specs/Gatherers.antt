-- Believed: the library's answers stand on these definitions.
-- What a frame keeps of the parts of a distribution packet.
use Rattle.std.specs.Prelude.{◌≡◌, List}
use Rattle.cdp_packets.specs.declared.parts.CdpPart.{CdpPart}
use Rattle.cc_receiver.specs.declared.frame.Frame.{Frame}
use Rattle.cc_receiver.specs.Gathering.{Gathered, gathered}
use Rattle.cc_receiver.specs.TripletLists.{HasTriplets}

-- it holds what was gathered
pub record Holds (g : Gathered) (frame : Frame) : Type 0 where
  pub rate : frame.rate ≡ g.rate
  pub flags : frame.flags ≡ g.flags
  pub counter : frame.counter ≡ g.counter
  pub sections : frame.sections.items ≡ g.sections
  pub triplets : HasTriplets g.triplets frame.triplets
  pub pairs_one : frame.pairs_one.items ≡ g.pairs_one
  pub pairs_two : frame.pairs_two.items ≡ g.pairs_two

-- it took these parts
abbrev pub HasGathered : List CdpPart → Frame → Type 0
HasGathered parts frame = Holds (gathered parts) frame
