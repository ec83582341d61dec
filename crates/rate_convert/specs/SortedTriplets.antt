-- Between crates: the program's answer stands on none of these definitions.
-- The triplets of a frame, sorted: each field's, and the channel packets' (CTA-708-E, cc_data()).
use Rattle.std.specs.Prelude.{◌≡◌, List, length}
use Rattle.cc_base.specs.declared.rate.Rate.TheVariants.{F2997}
use Rattle.cc_data.specs.declared.triplet.Triplet.{Triplet}
use Rattle.cdp_packets.specs.PacketTriplets.{packet_triplets}
use Rattle.cdp_packets.specs.Packets.{Frame}
use Rattle.channel_packets.specs.ChannelPackets.{channel_triplets}
use Rattle.rate_convert.specs.Conversion.{IsConvertible, of_field}
use Rattle.line21_codes.specs.declared.channels.FieldNumber.TheVariants.{One, Two}
use Rattle.rate_convert.specs.declared.sorted.Sorted.{Sorted}

pub record AreSorted (triplets : List Triplet) (sorted : Sorted) : Type 0 where
  pub ones : sorted.ones.items ≡ of_field One triplets
  pub twos : sorted.twos.items ≡ of_field Two triplets
  pub channel : sorted.channel.items ≡ channel_triplets triplets

-- they are some triplets, sorted
pub record IsSorted (sorted : Sorted) : Type 0 where
  pub triplets : List Triplet
  pub are : AreSorted triplets sorted

-- a frame is at 29.97, and has the twenty triplets of this rate
pub record IsFull (frame : Frame) : Type 0 where
  pub rate : frame.rate ≡ F2997
  pub count : length (packet_triplets frame) ≡ 20

-- these are the triplets of a frame that can be converted
pub record IsSortedFrame (frame : Frame) (sorted : Sorted) : Type 0 where
  pub convertible : IsConvertible frame
  pub sorted_are : AreSorted (packet_triplets frame) sorted
