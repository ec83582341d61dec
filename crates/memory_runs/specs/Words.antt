-- Between crates: the program's answer stands on none of these definitions.
-- Words of packets that were made by hand, as bytes.
use Rattle.std.specs.Prelude.{◌≡◌, ℕ, ◌+◌, ◌%◌, ◌<◌, List, [], ◌∷◌, ◌++◌}
use Rattle.std.specs.List.{sum}
use Rattle.anc_words.specs.Writing.{packet_bytes}

-- the byte is the last one of a distribution packet that begins with these: the sum of all is 0 modulo 256
pub record IsLast (packet : List ℕ) (last : ℕ) : Type 0 where
  pub is_byte : last < 256
  pub whole : (sum packet + last) % 256 ≡ 0

-- the bytes are the ancillary packet of captions that carries a distribution packet, which stands here without its last byte
pub record IsCaptionFrame (packet : List ℕ) (bytes : List ℕ) : Type 0 where
  pub last : ℕ
  pub is_last : IsLast packet last
  pub is : bytes ≡ packet_bytes 0x61 0x01 (packet ++ last ∷ [])
