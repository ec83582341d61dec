-- Believed: the library's answers stand on these definitions.
-- Whether bytes end with an ancillary packet, and with which (SMPTE ST 291-1, ST 334-1).
use Rattle.std.specs.Prelude.{ℕ, List, [], ◌∷◌, ◌++◌}
use Rattle.anc_words.specs.Packets.{AncillaryPacket, IsCaption}
use Rattle.anc_words.specs.WordsFiles.{IsWordsFile}
use Rattle.cc_receiver.specs.declared.receiver.Ended.{Ended}
use Rattle.cc_receiver.specs.declared.receiver.Ended.TheVariants as ended

-- the bytes are ancillary packets, and the last of them is this one
pub record EndsWithPacket (packet : AncillaryPacket) (bytes : List ℕ) : Type 0 where
  pub earlier : List AncillaryPacket
  pub are : IsWordsFile (earlier ++ packet ∷ []) bytes

-- whether the bytes end with an ancillary packet, and whether that is one of captions
abbrev pub EndsBy : Ended → List ℕ → Type 0
EndsBy ended.No bytes = (packets : List AncillaryPacket) → IsWordsFile packets bytes → ⊥
EndsBy ended.Foreign bytes = (packet : AncillaryPacket) × EndsWithPacket packet bytes × (IsCaption packet → ⊥)
EndsBy ended.Caption bytes = (packet : AncillaryPacket) × EndsWithPacket packet bytes × IsCaption packet
