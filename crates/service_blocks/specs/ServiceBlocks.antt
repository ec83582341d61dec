-- Believed: the program's answer stands on these definitions.
-- Service blocks (CTA-708-E, section 6.2): the bytes of a caption channel packet after its header, one block after another. A
-- block begins with its header: a number in the top three bits, and in the low five how many bytes it has after its header.
-- Where the number is 7 and the size isn't 0, a second header byte comes between these.
use Rattle.std.specs.Prelude.{◌≡◌, ◌≢◌, ℕ, ◌+◌, ◌-◌, ◌/◌, ◌%◌, ◌<◌, ◌==◌, ◌&&◌, nat_lt, if◌then◌else◌, Bool, List, [], ◌∷◌, ◌++◌, length}

-- a second header byte comes after this header
abbrev pub is_extended : ℕ → Bool
is_extended header = (header / 32 == 7) && nat_lt 0 (header % 32)

-- the bytes of a block after its header, with the second header byte
abbrev pub rest_of : ℕ → ℕ
rest_of header = if is_extended header then header % 32 + 1 else header % 32

-- a block as it came: its header, and the bytes after it, of which there are fewer where it was cut short with its packet
pub record Block : Type 0 where
  pub header : ℕ
  pub rest : List ℕ

-- the header of a block, which fits where `room` bytes of the packet are left, itself among them
pub record IsHeader (room header : ℕ) : Type 0 where
  pub some : header ≢ 0x00
  pub fits : rest_of header < room

-- bytes are these blocks, where `room` bytes of the packet are left, with those that don't come
pub data AreBlocks : ℕ → List Block → List ℕ → Type 0 where
  -- the bytes end
  end : {room : ℕ} → AreBlocks room [] []
  -- a header 00 ends the blocks, and the bytes after it are ignored
  ended : {room : ℕ} {ignored : List ℕ} → AreBlocks room [] (0x00 ∷ ignored)
  -- a whole block, and others
  whole : {room : ℕ} {block : Block} {blocks : List Block} {bytes : List ℕ} → IsHeader room block.header → length block.rest ≡ rest_of block.header
      → AreBlocks (room - 1 - length block.rest) blocks bytes → AreBlocks room (block ∷ blocks) (block.header ∷ (block.rest ++ bytes))
  -- the last block, cut short
  cut : {room : ℕ} {block : Block} → IsHeader room block.header → length block.rest < rest_of block.header
      → AreBlocks room (block ∷ []) (block.header ∷ block.rest)
