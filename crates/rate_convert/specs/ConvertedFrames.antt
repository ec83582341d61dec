-- Between crates: the program's answer stands on none of these definitions.
-- What holds of converted frames: they carry what the frames carried, and are a words file.
use Rattle.std.specs.Prelude.{◌≡◌, ℕ, ◌≤◌, List, ◌++◌, All, length}
use Rattle.cc_data.specs.declared.triplet.Triplet.{Triplet}
use Rattle.cdp_packets.specs.PacketTriplets.{packet_triplets}
use Rattle.cdp_packets.specs.Packets.{Frame}
use Rattle.channel_packets.specs.ChannelPackets.{channel_triplets}
use Rattle.line21_codes.specs.declared.channels.FieldNumber.{FieldNumber}
use Rattle.services_files.specs.CaptionChannel.{caption_channel}
use Rattle.words_files.specs.Offences.{IsFileUnder}
use Rattle.words_files.specs.Received.{field_pairs}
use Rattle.rate_convert.specs.Conversion.{IsConvertible, conversion, conversion_bytes, first_half, first_half_of, of_field, second_half, second_half_of}
use Rattle.rate_convert.specs.HalvedFrames.{AllHalves}

-- the triplets of channel packets stand in the first half and go on in the second; so do the pairs of a field with at most one triplet
pub record AreCut (triplets : List Triplet) : Type 0 where
  pub channel : channel_triplets triplets ≡ channel_triplets (first_half triplets) ++ channel_triplets (second_half triplets)
  pub pairs : (in_field : FieldNumber) → length (of_field in_field triplets) ≤ 1
      → field_pairs in_field triplets ≡ field_pairs in_field (first_half triplets) ++ field_pairs in_field (second_half triplets)

abbrev pub TripletsAreCut : Type 0
TripletsAreCut = (triplets : List Triplet) → AreCut triplets

-- each half has ten triplets, where there are at most eighteen of channel packets; these are what its packet carries
pub record HaveTen (number : ℕ) (frame : Frame) : Type 0 where
  pub first : packet_triplets (first_half_of number frame) ≡ first_half (packet_triplets frame)
  pub second : packet_triplets (second_half_of number frame) ≡ second_half (packet_triplets frame)
  pub first_ten : length (first_half (packet_triplets frame)) ≡ 10
  pub second_ten : length (second_half (packet_triplets frame)) ≡ 10

abbrev pub HalvesHaveTen : Type 0
HalvesHaveTen = (number : ℕ) (frame : Frame) → IsConvertible frame → HaveTen number frame

abbrev pub ConvertedAreHalves : Type 0
ConvertedAreHalves = (frames : List Frame) → All IsConvertible frames → AllHalves frames (conversion frames)

-- where a words file has frames that can be converted, what they become is a words file, over all layers
abbrev pub ConvertedAreFile : Type 0
ConvertedAreFile = (frames : List Frame) (bytes : List ℕ) → IsFileUnder caption_channel frames bytes → All IsConvertible frames
    → IsFileUnder caption_channel (conversion frames) (conversion_bytes frames)
