-- Believed: the program's answer stands on these definitions.
-- The frames of a words file: each of its ancillary packets of captions (SMPTE ST 334-1) carries one caption distribution
-- packet (SMPTE ST 334-2), and that is one frame; packets of other kinds stand between them.
use Rattle.std.specs.Prelude.{ℕ, List, [], ◌∷◌}
use Rattle.anc_words.specs.Packets.{AncillaryPacket, IsCaption, user_bytes}
use Rattle.anc_words.specs.WordsFiles.{IsWordsFile}
use Rattle.cdp_packets.specs.Packets.{Frame, IsCdp}

-- the packets carry the frames, in order
pub data CarryFrames : List AncillaryPacket → List Frame → Type 0 where
  none : CarryFrames [] []
  caption : (packet : AncillaryPacket) (packets : List AncillaryPacket) (frame : Frame) (frames : List Frame)
      → IsCaption packet → IsCdp frame (user_bytes packet) → CarryFrames packets frames → CarryFrames (packet ∷ packets) (frame ∷ frames)
  foreign : (packet : AncillaryPacket) (packets : List AncillaryPacket) (frames : List Frame)
      → (IsCaption packet → ⊥) → CarryFrames packets frames → CarryFrames (packet ∷ packets) frames

-- the bytes are a words file of the frames
pub record IsFileOf (frames : List Frame) (bytes : List ℕ) : Type 0 where
  pub packets : List AncillaryPacket
  pub file : IsWordsFile packets bytes
  pub carried : CarryFrames packets frames
