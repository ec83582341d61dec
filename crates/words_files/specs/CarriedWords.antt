-- Believed: the program's answer stands on these definitions.
-- The words that carry a distribution packet (SMPTE ST 334-2): the words of an ancillary packet of captions (SMPTE ST 334-1). And the
-- distribution packet of triplets alone.
use Rattle.std.specs.Prelude.{ℕ, ◌%◌, List, [], ◌∷◌}
use Rattle.std.specs.List.{concat}
use Rattle.anc_words.specs.Writing.{packet_bytes}
use Rattle.cc_base.specs.declared.rate.Rate.{Rate}
use Rattle.cc_data.specs.declared.triplet.Triplet.{Triplet}
use Rattle.cdp_packets.specs.Packets.{Frame}
use Rattle.cdp_packets.specs.Written.{cc_data_section, written_packet}

-- the words of the ancillary packet of captions that carries a packet, two bytes each
abbrev pub carried_words : Frame → List ℕ
carried_words frame = packet_bytes 0x61 0x01 (written_packet frame.rate frame.flags frame.counter (concat frame.sections))

-- the flags of a packet with cc_data and nothing else, of an active service: 0100 0011
abbrev pub caption_flags : ℕ
caption_flags = 0x43

-- the packet of a frame, by its number: one section of cc_data with these triplets, and nothing else; the counter has 16 bits
abbrev pub triplets_packet : Rate → ℕ → List Triplet → Frame
triplets_packet rate number triplets = record {
  rate = rate;
  flags = caption_flags;
  counter = number % 65536;
  sections = cc_data_section triplets ∷ [];
}
