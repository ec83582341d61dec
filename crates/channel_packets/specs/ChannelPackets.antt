-- Believed in part: the program's answer stands on some of these definitions.
-- Caption channel packets (CTA-708-E, section 5): of the triplets of cc_data in a whole file, in order, those that count and
-- are of kind 3 or 2. One of kind 3 starts a packet, and the ones of kind 2 after it continue with it. The first byte of a packet
-- is its header; the header says how many of the bytes after it are the packet's.
use Rattle.std.specs.Prelude.{◌≡◌, ℕ, ◌+◌, ◌-◌, ◌*◌, ◌/◌, ◌%◌, ◌==◌, ◌&&◌, ◌||◌, not, if◌then◌else◌, Bool, true, false, List, [], ◌∷◌, ◌++◌, filter, map, take, Option, Some, None}
use Rattle.std.specs.List.{flat_map, list_all}
use Rattle.cc_data.specs.declared.triplet.Triplet.{Triplet}

-- the triplet starts a packet
abbrev pub starts : Triplet → Bool
starts triplet = triplet.valid && (triplet.kind == 3)

-- the triplet continues with a packet
abbrev pub continues_packet : Triplet → Bool
continues_packet triplet = triplet.valid && (triplet.kind == 2)

-- the triplets of channel packets: those for line 21 and those that don't count are left out
abbrev pub channel_triplets : List Triplet → List Triplet
channel_triplets triplets = filter (λ triplet. starts triplet || continues_packet triplet) triplets

-- the number of a packet, the top two bits of its header
abbrev pub number_of : ℕ → ℕ
number_of header = header / 64

-- the bytes that a packet has after its header: with it twice as many as the low six bits say, where 0 stands for 64
abbrev pub size_of : ℕ → ℕ
size_of header = if header % 64 == 0 then 127 else 2 * (header % 64) - 1

-- a packet as it came: its header, and the bytes after it, of which there are fewer than its size where it was cut short
pub record ChannelPacket : Type 0 where
  pub header : ℕ
  pub bytes : List ℕ

-- the triplets from one that starts a packet up to the next such one, or to the end
pub record TripletStretch : Type 0 where
  pub first : Triplet
  pub more : List Triplet

-- its first triplet starts a packet, and the others continue with it
abbrev pub is_stretch : TripletStretch → Bool
is_stretch stretch = starts stretch.first && list_all continues_packet stretch.more

-- its triplets
abbrev pub stretch_triplets : TripletStretch → List Triplet
stretch_triplets stretch = stretch.first ∷ stretch.more

-- the bytes of triplets, two each
abbrev pub bytes_of : List Triplet → List ℕ
bytes_of triplets = flat_map (λ triplet. triplet.a ∷ triplet.b ∷ []) triplets

-- the packet of a stretch: the bytes after its header, as many as its size at most; those after them belong to no packet
abbrev pub stretch_packet : TripletStretch → ChannelPacket
stretch_packet stretch = record {
  header = stretch.first.a;
  bytes = take (size_of stretch.first.a) (stretch.first.b ∷ bytes_of stretch.more);
}

-- the triplets of a file have these packets: they are split before each one that starts a packet, and what stands before
-- the first of these belongs to no packet
pub record AreChannelPackets (packets : List ChannelPacket) (triplets : List Triplet) : Type 0 where
  pub strays : List Triplet
  pub stretches : List TripletStretch
  pub spelled : channel_triplets triplets ≡ strays ++ flat_map stretch_triplets stretches
  pub strays_are : list_all continues_packet strays ≡ true
  pub stretches_are : list_all is_stretch stretches ≡ true
  pub packets_are : packets ≡ map stretch_packet stretches

-- a packet is missing before the one of this number, after the one of the last number: it isn't the next, counted modulo 4.
-- None is missing before the first packet
abbrev pub is_gap : Option ℕ → ℕ → Bool
is_gap None number = false
is_gap (Some last) number = not (number == (last + 1) % 4)

-- none of the triplets continues a packet before the first one that starts a packet
abbrev pub begins_anew : List Triplet → Bool
begins_anew [] = true
begins_anew (triplet ∷ triplets) = starts triplet || (not (continues_packet triplet) && begins_anew triplets)
