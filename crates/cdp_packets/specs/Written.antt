-- Believed: the program's answer stands on these definitions.
-- What is written of a caption distribution packet, byte for byte: marker bits are ones (SMPTE ST 334-2).
use Rattle.std.specs.Prelude.{ℕ, ◌+◌, ◌-◌, ◌*◌, ◌/◌, ◌%◌, List, [], ◌∷◌, ◌++◌, length, sum}
use Rattle.cc_base.specs.declared.rate.Rate.{Rate}
use Rattle.cc_base.specs.Rate.{rate_code}
use Rattle.cc_data.specs.declared.triplet.Triplet.{Triplet}
use Rattle.cc_data.specs.Triplets.{all_written}

-- a cc_data section: its id, three marker bits over the count, and the triplets
abbrev pub cc_data_section : List Triplet → List ℕ
cc_data_section triplets = 0x72 ∷ (0xE0 + length triplets) ∷ all_written triplets

-- the byte that makes the sum 0 modulo 256
abbrev pub checksum_of : List ℕ → ℕ
checksum_of bytes = (256 - sum bytes % 256) % 256

-- a packet without its last byte
abbrev pub unsummed_packet : Rate → ℕ → ℕ → List ℕ → List ℕ
unsummed_packet rate flags counter sections =
    0x96 ∷ 0x69 ∷ (length sections + 11) ∷ (16 * rate_code rate + 15) ∷ flags ∷ (counter / 256) ∷ (counter % 256)
    ∷ (sections ++ 0x74 ∷ (counter / 256) ∷ (counter % 256) ∷ [])

-- a packet of this rate, flags, counter and sections
abbrev pub written_packet : Rate → ℕ → ℕ → List ℕ → List ℕ
written_packet rate flags counter sections =
    let packet = unsummed_packet rate flags counter sections in packet ++ checksum_of packet ∷ []
