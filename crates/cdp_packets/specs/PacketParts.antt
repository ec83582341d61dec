-- Between crates: the program's answer stands on none of these definitions.
-- The parts of a caption distribution packet, in order (SMPTE ST 334-2): its rate, its flags, its counter, each byte of its
-- sections, among them the triplets of cc_data (CTA-708-E), and its end.
use Rattle.std.specs.Prelude.{ℕ, ◌==◌, if◌then◌else◌, List, [], ◌∷◌, ◌++◌, map}
use Rattle.std.specs.List.{flat_map}
use Rattle.cc_data.specs.Triplets.{triplet_of}
use Rattle.cdp_packets.specs.declared.parts.CdpPart.{CdpPart}
use Rattle.cdp_packets.specs.declared.parts.CdpPart.TheVariants as part
use Rattle.cdp_packets.specs.Packets.{Frame}

-- the parts of triplets, three bytes each: after the second byte stands the triplet with a third byte 0, and after the third
-- byte the triplet
abbrev pub triplet_parts : List ℕ → List CdpPart
triplet_parts (first ∷ second ∷ third ∷ rest) =
    part.SectionByte first ∷ part.SectionByte second ∷ part.Half (triplet_of first second 0)
    ∷ part.SectionByte third ∷ part.Triplet (triplet_of first second third) ∷ triplet_parts rest
triplet_parts _ = []

-- the parts of a section: its id, its second byte, and the bytes after these, in a cc_data section with their triplets
abbrev pub section_parts : List ℕ → List CdpPart
section_parts (id ∷ second ∷ rest) =
    part.SectionByte id ∷ part.SectionByte second ∷ (if id == 0x72 then triplet_parts rest else map part.SectionByte rest)
section_parts _ = []

-- the parts of a packet
abbrev pub packet_parts : Frame → List CdpPart
packet_parts packet =
    part.Rate packet.rate ∷ part.Flags packet.flags ∷ part.Counter packet.counter
    ∷ (flat_map section_parts packet.sections ++ part.End ∷ [])
