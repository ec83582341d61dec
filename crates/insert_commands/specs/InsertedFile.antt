-- Believed: the program's answer stands on these definitions.
-- A words file with new captions (SMPTE ST 291-1, ST 334-1 and ST 334-2): packets that aren't of captions stay byte for byte and in
-- place, and each other one carries its distribution packet with the triplets of its frame in place of its own.
use Rattle.std.specs.Prelude.{◌≡◌, ◌≤◌, ℕ, List, [], ◌∷◌, ◌++◌, length}
use Rattle.anc_words.specs.Packets.{AncillaryPacket, IsCaption, user_bytes}
use Rattle.anc_words.specs.WordsFiles.{IsPacketBytes}
use Rattle.cc_data.specs.declared.triplet.Triplet.{Triplet}
use Rattle.cdp_packets.specs.Packets.{Frame, IsCdp}
use Rattle.packet_inserter.specs.Insertion.{IsInserted, packet_length}
use Rattle.words_files.specs.CarriedWords.{carried_words}

-- a packet after a file is one of captions that carries this frame
pub record BringsFrame (frame : Frame) (bytes : List ℕ) : Type 0 where
  pub packet : AncillaryPacket
  pub is : IsPacketBytes packet bytes
  pub is_caption : IsCaption packet
  pub carries : IsCdp frame (user_bytes packet)

-- it isn't one of captions
pub record IsForeign (bytes : List ℕ) : Type 0 where
  pub packet : AncillaryPacket
  pub is : IsPacketBytes packet bytes
  pub is_foreign : IsCaption packet → ⊥

-- what becomes of a file of these frames, where the captions of each frame are these: packet after packet
pub data AreInserted : (ℕ → List Triplet) → List Frame → List ℕ → List ℕ → Type 0 where
  nothing : (captions : ℕ → List Triplet) → AreInserted captions [] [] []
  foreign : (captions : ℕ → List Triplet) (frames : List Frame) (file text bytes whole out : List ℕ) → AreInserted captions frames file text → IsForeign bytes
      → whole ≡ file ++ bytes → out ≡ text ++ bytes → AreInserted captions frames whole out
  caption : (captions : ℕ → List Triplet) (frames more : List Frame) (old new : Frame) (file text bytes whole out : List ℕ) → AreInserted captions frames file text
      → BringsFrame old bytes → IsInserted (captions (length frames)) old new → packet_length new ≤ 255 → more ≡ frames ++ old ∷ []
      → whole ≡ file ++ bytes → out ≡ text ++ carried_words new → AreInserted captions more whole out
