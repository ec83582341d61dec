-- Believed: the program's answer stands on these definitions.
-- Words files: ancillary packets one after another, as bytes.
use Rattle.std.specs.Prelude.{◌≡◌, ℕ, List, [], ◌∷◌, ◌++◌}
use Rattle.anc_words.specs.Words.{AreWords}
use Rattle.anc_words.specs.Packets.{AncillaryPacket, IsPacket}

-- the words are the packets, one after another
abbrev pub ArePackets : List AncillaryPacket → List ℕ → Type 0
ArePackets [] words = words ≡ []
ArePackets (packet ∷ packets) words =
    (front : List ℕ) × (rest : List ℕ) × (words ≡ front ++ rest) × IsPacket packet front × ArePackets packets rest

-- the bytes are the one packet
pub record IsPacketBytes (packet : AncillaryPacket) (bytes : List ℕ) : Type 0 where
  pub words : List ℕ
  pub spelled : AreWords bytes words
  pub is_packet : IsPacket packet words

-- the bytes are a words file of the packets
pub record IsWordsFile (packets : List AncillaryPacket) (bytes : List ℕ) : Type 0 where
  pub words : List ℕ
  pub spelled : AreWords bytes words
  pub are_packets : ArePackets packets words
