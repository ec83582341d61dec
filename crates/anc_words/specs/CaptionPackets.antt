-- Believed in part: the library's answers stand on some of these definitions.
-- Whole packets of captions at the front of bytes (SMPTE ST 291-1, SMPTE ST 334-1).
use Rattle.std.specs.Prelude.{◌≡◌, ℕ, ◌+◌, ◌*◌, ◌≤◌, List, length, map, take}
use Rattle.anc_words.specs.Packets.{AncillaryPacket, IsCaption, user_bytes}
use Rattle.anc_words.specs.WordsFiles.{IsPacketBytes}
use Rattle.anc_words.specs.CaptionWords.{low_of}
use Rattle.anc_words.specs.declared.caption_packet.CaptionPacket.{CaptionPacket}

-- the first bytes, this many, are a packet of captions that carries these user bytes
pub record IsCaptionAhead (bytes : List ℕ) (size : ℕ) (user : List ℕ) : Type 0 where
  pub packet : AncillaryPacket
  pub is_caption : IsCaption packet
  pub within : size ≤ length bytes
  pub is : IsPacketBytes packet (take size bytes)
  pub user_is : user_bytes packet ≡ user

-- the number of a packet's bytes: the flag of three words, DID, SDID, the count, the user words and the checksum word, two
-- bytes each
abbrev pub caption_packet_size : CaptionPacket → ℕ
caption_packet_size packet = 2 * (length packet.user.now + 7)

-- the low bytes of its user words
abbrev pub carried_by : CaptionPacket → List ℕ
carried_by packet = map low_of packet.user.now
