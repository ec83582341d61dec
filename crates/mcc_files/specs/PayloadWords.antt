-- Believed in part: the program's answer stands on some of these definitions.
-- The ancillary words of a payload's packet, as bytes (SMPTE ST 291-1): the flag, DID, SDID, count and user bytes as 8-bit words, and the
-- checksum word.
use Rattle.std.specs.Prelude.{◌≡◌, ◌<◌, ℕ, List}
use Rattle.std.specs.List.{All}
use Rattle.anc_words.specs.Packets.{AncillaryPacket, user_bytes}
use Rattle.anc_words.specs.Writing.{packet_bytes}
use Rattle.mcc_files.specs.Payloads.{Payload, payload_bytes}

-- the words of a payload's packet, two bytes each
abbrev pub payload_words : Payload → List ℕ
payload_words payload = packet_bytes payload.did payload.sdid payload.user

-- what a payload says of a packet: the low eight bits of its user words
abbrev pub payload_of : AncillaryPacket → Payload
payload_of packet = record { did = packet.did; sdid = packet.sdid; user = user_bytes packet }

-- the bytes are the words of the packet of a payload of bytes
pub record IsPayloadOf (payload : Payload) (packet : List ℕ) : Type 0 where
  pub bytes : All (λ byte. byte < 256) (payload_bytes payload)
  pub words : packet ≡ payload_words payload
