-- Believed: the program's answer stands on these definitions.
-- The frames that bytes have brought so far: the frames of the longest words file with which they begin (SMPTE ST 291-1, ST 334-1
-- and ST 334-2). Bytes after it, of a packet that isn't whole or that is refused, say nothing yet.
use Rattle.std.specs.Prelude.{◌≡◌, ℕ, ◌≤◌, List, ◌++◌, length}
use Rattle.cdp_packets.specs.Packets.{Frame}
use Rattle.words_files.specs.Layers.{Layers}
use Rattle.words_files.specs.Offences.{IsFileUnder}

-- the frames are the frames of the longest words file with which the bytes begin
pub record AreFramesOf (layers : Layers) (frames : List Frame) (bytes : List ℕ) : Type 0 where
  pub file : List ℕ
  pub behind : List ℕ
  pub spelled : bytes ≡ file ++ behind
  pub is_file : IsFileUnder layers frames file
  pub longest : (others : List Frame) (other rest : List ℕ) → bytes ≡ other ++ rest → IsFileUnder layers others other
      → length other ≤ length file
