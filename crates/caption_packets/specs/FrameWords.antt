-- Believed in part: the library's answers stand on some of these definitions.
-- The words of one frame's captions.
use Rattle.std.specs.Prelude.{◌≡◌, ◌%◌, ◌≤◌, ◌<◌, ℕ, List, length, Some}
use Rattle.std.specs.List.{flat_map}
use Rattle.anc_words.specs.CaptionPackets.{IsCaptionAhead}
use Rattle.anc_words.specs.Writing.{packet_bytes}
use Rattle.cc_base.specs.Rate.{rate_of}
use Rattle.cc_base.specs.declared.rate.Rate.{Rate}
use Rattle.cc_data.specs.Triplets.{triplets_of}
use Rattle.cdp_packets.specs.Packets.{Frame, IsCdp}
use Rattle.cdp_packets.specs.PacketTriplets.{section_triplet_bytes}
use Rattle.words_files.specs.CarriedWords.{carried_words, triplets_packet}
use Rattle.caption_packets.specs.declared.reading.FrameData.{FrameData}

-- these bytes are whole triplets, as many as a packet can carry, this code is a rate's, and this number a counter
pub record IsFrame (cc_data : List ℕ) (code counter : ℕ) (rate : Rate) : Type 0 where
  pub whole : length cc_data % 3 ≡ 0
  pub few : length cc_data ≤ 93
  pub rate_is : rate_of code ≡ Some rate
  pub counted : counter < 65536

-- the words that carry these triplets and nothing else
abbrev pub cc_data_words : List ℕ → Rate → ℕ → List ℕ
cc_data_words cc_data rate counter = carried_words (triplets_packet rate counter (triplets_of cc_data))

-- the words of the ancillary packet that carries a distribution packet
abbrev pub cdp_words : List ℕ → List ℕ
cdp_words cdp = packet_bytes 0x61 0x01 cdp

-- the triplets of a packet as they stand, three bytes each
abbrev pub triplet_bytes_of : Frame → List ℕ
triplet_bytes_of packet = flat_map section_triplet_bytes packet.sections

-- the words are one ancillary packet of captions, whole, that carries this distribution packet
pub record CarriesCdp (words cdp : List ℕ) : Type 0 where
  pub carries : IsCaptionAhead words (length words) cdp
  pub packet : Frame
  pub is : IsCdp packet cdp

-- what the packet that the words carry says, and the bytes of its triplets
pub record SaysFrame (words : List ℕ) (told : FrameData) : Type 0 where
  pub cdp : List ℕ
  pub carried : CarriesCdp words cdp
  pub rate : told.rate ≡ carried.packet.rate
  pub flags : told.flags ≡ carried.packet.flags
  pub counter : told.counter ≡ carried.packet.counter
  pub cc_data : told.cc_data.items ≡ triplet_bytes_of carried.packet
