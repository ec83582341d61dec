-- Believed: the library's answers stand on these definitions.
-- The triplets that a caption distribution packet carries (SMPTE ST 334-2; CTA-708-E, cc_data()).
use Rattle.std.specs.Prelude.{ℕ, ◌==◌, if◌then◌else◌, List, [], ◌∷◌}
use Rattle.std.specs.List.{flat_map}
use Rattle.cc_data.specs.declared.triplet.Triplet.{Triplet}
use Rattle.cc_data.specs.Triplets.{triplets_of}
use Rattle.cdp_packets.specs.Packets.{Frame}

-- the triplets of a section: those after the count of a cc_data section, and none of another section
abbrev pub section_triplets : List ℕ → List Triplet
section_triplets (id ∷ second ∷ rest) = if id == 0x72 then triplets_of rest else []
section_triplets _ = []

-- the bytes of a section's triplets
abbrev pub section_triplet_bytes : List ℕ → List ℕ
section_triplet_bytes (id ∷ second ∷ rest) = if id == 0x72 then rest else []
section_triplet_bytes _ = []

-- the triplets of a packet are its cc_data sections' triplets, in order
abbrev pub packet_triplets : Frame → List Triplet
packet_triplets packet = flat_map section_triplets packet.sections
