-- Believed: the program's answer stands on these definitions.
-- What frames at 29.97 frames a second become at 59.94 (SMPTE ST 334-2; CTA-708-E, cc_data()): each becomes two, its halves, which carry
-- what it carried. Other sections than cc_data, and ancillary packets that aren't of captions, are left out.
use Rattle.std.specs.Prelude.{◌≡◌, ℕ, suc, ◌+◌, ◌-◌, ◌*◌, ◌≤◌, ◌==◌, ◌&&◌, Bool, List, [], ◌∷◌, ◌++◌, drop, filter, length, replicate, take, get_or}
use Rattle.std.specs.List.{flat_map}
use Rattle.cc_base.specs.declared.rate.Rate.TheVariants.{F2997, F5994}
use Rattle.cc_data.specs.Triplets.{filler}
use Rattle.cc_data.specs.declared.triplet.Triplet.{Triplet}
use Rattle.cdp_packets.specs.PacketTriplets.{packet_triplets}
use Rattle.cdp_packets.specs.Packets.{Frame}
use Rattle.channel_packets.specs.ChannelPackets.{channel_triplets}
use Rattle.line21_codes.specs.declared.channels.FieldNumber.{FieldNumber}
use Rattle.line21_codes.specs.declared.channels.FieldNumber.TheVariants.{One, Two}
use Rattle.words_files.specs.CarriedWords.{carried_words, triplets_packet}
use Rattle.words_files.specs.Received.{field_kind}

-- a triplet counts and is of a field of line 21
abbrev pub is_of : FieldNumber → Triplet → Bool
is_of in_field triplet = triplet.valid && (triplet.kind == field_kind in_field)

abbrev pub of_field : FieldNumber → List Triplet → List Triplet
of_field in_field triplets = filter (is_of in_field) triplets

-- a frame can be converted: it is at 29.97 and has the twenty triplets of this rate; of those that count each field has one at most, and at
-- most eighteen are of channel packets
pub record IsConvertible (frame : Frame) : Type 0 where
  pub rate : frame.rate ≡ F2997
  pub count : length (packet_triplets frame) ≡ 20
  pub few : (in_field : FieldNumber) → length (of_field in_field (packet_triplets frame)) ≤ 1
  pub most : length (channel_triplets (packet_triplets frame)) ≤ 18

-- ten triplets: the first of a field, or FA 00 00 where there is none, some of channel packets, and FA 00 00 up to ten
abbrev pub ten_triplets : List Triplet → List Triplet → List Triplet
ten_triplets field channel = get_or field 0 filler ∷ (channel ++ replicate (9 - length channel) filler)

-- the first half has the triplet of field 1, and the first nine of channel packets; the second half has the triplet of field 2, and the
-- others
abbrev pub first_half : List Triplet → List Triplet
first_half triplets = ten_triplets (of_field One triplets) (take 9 (channel_triplets triplets))

abbrev pub second_half : List Triplet → List Triplet
second_half triplets = ten_triplets (of_field Two triplets) (drop 9 (channel_triplets triplets))

-- the halves of the frame of a number, each the packet of its triplets, by its own number: twice that, and one more
abbrev pub first_half_of : ℕ → Frame → Frame
first_half_of number frame = triplets_packet F5994 (2 * number) (first_half (packet_triplets frame))

abbrev pub second_half_of : ℕ → Frame → Frame
second_half_of number frame = triplets_packet F5994 (2 * number + 1) (second_half (packet_triplets frame))

-- the halves of frames, of which the first has this number
abbrev pub conversion_from : ℕ → List Frame → List Frame
conversion_from number [] = []
conversion_from number (frame ∷ frames) = first_half_of number frame ∷ second_half_of number frame ∷ conversion_from (suc number) frames

-- and of the frames of a file
abbrev pub conversion : List Frame → List Frame
conversion frames = conversion_from 0 frames

-- and the words that carry these
abbrev pub conversion_bytes : List Frame → List ℕ
conversion_bytes frames = flat_map carried_words (conversion frames)
