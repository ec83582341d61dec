-- The line of a packet, from what it says.
use Rattle.std.proofs.Common.{◌≡◌, ℕ, List, [], ap, refl, subst, ◌∙◌}
use Rattle.anc_words.proofs.PacketLemmas.{IsPacketBytes-unique}
use Rattle.anc_words.specs.Packets.{AncillaryPacket, IsCaption}
use Rattle.anc_words.specs.WordsFiles.{IsPacketBytes}
use Rattle.mcc_files.specs.Writing.{IsWrittenLine}
use Rattle.mcc_files.proofs.WordLemmas.{packet_is_payload}
use Rattle.mcc_files.specs.Payloads.{Payload}
use Rattle.mcc_files.specs.PayloadWords.{IsPayloadOf, payload_of}
use Rattle.time_codes.specs.declared.counting.Counting.{Counting}
use Rattle.mcc_commands.proofs.ExportedLemmas.{caption_of_bytes}
use Rattle.mcc_commands.specs.ExportSteps.{IsCaptionPacket}

pub said_line : (count : Counting) (frame did sdid : ℕ) (user words : List ℕ) (payload : Payload) (line : List ℕ) → user ≡ words
    → record { did = did; sdid = sdid; user = words } ≡ payload → IsWrittenLine count frame (record { did = did; sdid = sdid; user = user }) line
    → IsWrittenLine count frame payload line
said_line count frame did sdid user words payload line same is written =
    subst (λ p. IsWrittenLine count frame p line)
    (ap (λ (u : List ℕ). let p : Payload = record { did = did; sdid = sdid; user = u } in p) same ∙ is) written

pub line_at : (count other : Counting) (frame place : ℕ) (payload : Payload) (line : List ℕ) → count ≡ other → frame ≡ place → IsWrittenLine count frame payload line
    → IsWrittenLine other place payload line
line_at count other frame place payload line same at written =
    subst (λ f. IsWrittenLine other f payload line) at (subst (λ c. IsWrittenLine c frame payload line) same written)

-- the bytes of a packet of captions are the bytes of a payload's packet
pub caption_payload : (packet : AncillaryPacket) (bytes : List ℕ) → IsPacketBytes packet bytes → IsCaption packet → IsPayloadOf (payload_of packet) bytes
caption_payload packet bytes is caption =
    let payload = packet_is_payload packet bytes (caption_of_bytes packet bytes is caption) is in
    record { bytes = payload.0; words = payload.1 }

-- whatever packet they are
pub same_payload : (packet : AncillaryPacket) (bytes : List ℕ) → IsCaptionPacket bytes → IsPacketBytes packet bytes → IsPayloadOf (payload_of packet) bytes
same_payload packet bytes captions is =
    let same = (IsPacketBytes-unique captions.packet packet bytes bytes [] [] captions.is is refl).0 in
    caption_payload packet bytes is (subst IsCaption same captions.is_caption)
