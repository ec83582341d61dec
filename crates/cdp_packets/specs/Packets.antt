-- Believed: the program's answer stands on these definitions.
-- Caption distribution packets (SMPTE ST 334-2): the identifier 96 69, the length of the whole packet, the rate, flags, the
-- counter, sections, and a footer with the counter again and the byte that makes the sum 0.
use Rattle.std.specs.Prelude.{◌≡◌, ℕ, ◌+◌, ◌*◌, ◌%◌, ◌<◌, List, [], ◌∷◌, ◌++◌, length, sum}
use Rattle.std.specs.List.{concat}
use Rattle.cc_base.specs.declared.rate.Rate.{Rate}
use Rattle.cc_base.specs.Rate.{rate_code}
use Rattle.cdp_packets.specs.Sections.{AreSections}

-- what a packet says: the frame rate, the flags, the packet's number, and the bytes of each section
pub record Frame : Type 0 where
  pub rate : Rate
  pub flags : ℕ
  pub counter : ℕ
  pub sections : List (List ℕ)

-- bytes are this packet, whatever the four bits beside the rate are
pub record IsCdp (packet : Frame) (bytes : List ℕ) : Type 0 where
  pub marker : ℕ
  pub high : ℕ
  pub low : ℕ
  pub last : ℕ
  pub four_bits : marker < 16
  pub counter : packet.counter ≡ 256 * high + low
  pub sections : AreSections packet.sections
  pub spelled : bytes ≡ 0x96 ∷ 0x69 ∷ length bytes ∷ (16 * rate_code packet.rate + marker) ∷ packet.flags ∷ high ∷ low
      ∷ (concat packet.sections ++ 0x74 ∷ high ∷ low ∷ last ∷ [])
  pub total : sum bytes % 256 ≡ 0
