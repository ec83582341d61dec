-- Believed in part: the program's answer stands on some of these definitions.
-- What is written of a channel packet, triplet for triplet (CTA-708-E, section 5): an odd number of bytes follows the
-- header, so an even one is completed by a byte 00.
use Rattle.std.specs.Prelude.{ℕ, ◌+◌, ◌*◌, ◌/◌, ◌%◌, ◌==◌, if◌then◌else◌, true, List, [], ◌∷◌, ◌++◌, length}
use Rattle.cc_data.specs.declared.triplet.Triplet.{Triplet}
use Rattle.channel_packets.specs.ChannelPackets.{ChannelPacket}

-- the header of a packet of this number, with this many bytes after it, odd or even: half of all its bytes, where 64 stands as 0
abbrev pub header_for : ℕ → ℕ → ℕ
header_for number size = 64 * number + (size / 2 + 1) % 64

-- the triplet of a header and the byte after it
abbrev pub starting : ℕ → ℕ → Triplet
starting header byte = record { valid = true; kind = 3; a = header; b = byte }

-- the triplet of two further bytes
abbrev pub continuing : ℕ → ℕ → Triplet
continuing first second = record { valid = true; kind = 2; a = first; b = second }

-- further bytes, two in a triplet
abbrev pub bytes_written : List ℕ → List Triplet
bytes_written [] = []
bytes_written (first ∷ []) = continuing first 0x00 ∷ []
bytes_written (first ∷ second ∷ bytes) = continuing first second ∷ bytes_written bytes

-- a packet of this number with these bytes, of which there is one at least
abbrev pub packet_written : ℕ → List ℕ → List Triplet
packet_written number [] = []
packet_written number (first ∷ bytes) = starting (header_for number (length (first ∷ bytes))) first ∷ bytes_written bytes

-- the bytes of a packet: an even number of them is completed
abbrev pub completed_bytes : List ℕ → List ℕ
completed_bytes bytes = if length bytes % 2 == 0 then bytes ++ 0x00 ∷ [] else bytes

-- the packet that is written
abbrev pub packet_for : ℕ → List ℕ → ChannelPacket
packet_for number bytes = record { header = header_for number (length bytes); bytes = completed_bytes bytes }
