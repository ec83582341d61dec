-- The words of the packets of payloads.
use Rattle.std.proofs.Common.{◌≡◌, ℕ, suc, ◌%◌, ◌<◌, List, [], ◌∷◌, ◌++◌, length, map, refl, ap, subst, arith}
use Rattle.std.specs.List.{All}
use Rattle.std.proofs.lemmas.List.Elements.{All-append}
use Rattle.anc_words.proofs.EightBitLemmas.{IsEightBit-word}
use Rattle.anc_words.proofs.PacketLemmas.{IsPacketBytes-same_bytes, packet_bytes-is}
use Rattle.anc_words.specs.EightBitWords.{IsEightBit}
use Rattle.anc_words.specs.Packets.{AncillaryPacket, user_bytes}
use Rattle.anc_words.specs.Writing.{eight_bit_word, packet_of}
use Rattle.anc_words.specs.WordsFiles.{IsPacketBytes}
use Rattle.mcc_files.specs.Payloads.{Payload, checksum_byte, payload_bytes}
use Rattle.mcc_files.specs.PayloadWords.{payload_of, payload_words}
use Rattle.mcc_files.proofs.CompleteLemmas.{checksum_small, more_bytes, no_bytes}
use Rattle.mcc_files.proofs.WrittenLemmas.{AreBytes, back_bytes, tail_bytes}

-- 8-bit words are the words of their own bytes
pub words_again : (words : List ℕ) → All (λ word. IsEightBit (word % 256) word) words → map eight_bit_word (map (λ word. word % 256) words) ≡ words
words_again [] are = refl
words_again (word ∷ words) are =
    let one : word ≡ eight_bit_word (word % 256) = IsEightBit-word (word % 256) word (are 0 word (omega arith)) in
    let more = words_again words (λ k d below. are (suc k) d (omega (arith, below))) in
    cc

pub low_bytes : (words : List ℕ) → AreBytes (map (λ word. word % 256) words)
low_bytes [] = no_bytes
low_bytes (word ∷ words) = more_bytes (word % 256) (map (λ word. word % 256) words) (omega arith) (low_bytes words)

pub length_low : (words : List ℕ) → length (map (λ word. word % 256) words) ≡ length words
length_low [] = refl
length_low (word ∷ words) = ap (λ n. suc n) (length_low words)

pub same_packet : (packet : AncillaryPacket) (user : List ℕ) → user ≡ packet.user → record packet { user = user } ≡ packet
same_packet packet user same = ap (λ u. record packet { user = u }) same

pub front_bytes : (front back : List ℕ) → AreBytes (front ++ back) → AreBytes front
front_bytes [] back are = no_bytes
front_bytes (byte ∷ front) back are = more_bytes byte front (are 0 byte (omega arith)) (front_bytes front back (tail_bytes byte (front ++ back) are))

-- the user words of a payload, from its bytes
pub user_of_bytes : (payload : Payload) → AreBytes (payload_bytes payload) → AreBytes payload.user
user_of_bytes payload are = front_bytes payload.user (checksum_byte payload ∷ []) (back_bytes (payload.did ∷ payload.sdid ∷ length payload.user ∷ []) (payload.user ++ checksum_byte payload ∷ []) are)

-- the packet of a payload
pub payload_is_packet : (payload : Payload) → AreBytes (payload_bytes payload)
    → IsPacketBytes (packet_of payload.did payload.sdid payload.user) (payload_words payload)
payload_is_packet payload are =
    let did : payload.did < 256 = are 0 payload.did (omega arith) in
    let sdid : payload.sdid < 256 = are 1 payload.did (omega arith) in
    let count : length payload.user < 256 = are 2 payload.did (omega arith) in
    packet_bytes-is payload.did payload.sdid payload.user did sdid (omega arith) (user_of_bytes payload are)

-- a packet of 8-bit words has the words of a payload
pub packet_is_payload : (packet : AncillaryPacket) (bytes : List ℕ) → All (λ word. IsEightBit (word % 256) word) packet.user → IsPacketBytes packet bytes
    → AreBytes (payload_bytes (payload_of packet)) × (bytes ≡ payload_words (payload_of packet))
packet_is_payload packet bytes eight is =
    let p = is.is_packet in
    let did : packet.did < 256 = omega (arith, p.has_did.low_bits) in
    let sdid : packet.sdid < 256 = omega (arith, p.has_sdid.low_bits) in
    let count : length packet.user < 256 = omega (arith, p.has_count.low_bits) in
    let many = length_low packet.user in
    let payload = payload_of packet in
    let last = more_bytes (checksum_byte payload) [] (checksum_small payload) no_bytes in
    let user = All-append (λ byte. byte < 256) (user_bytes packet) (checksum_byte payload ∷ []) (low_bytes packet.user) last in
    let are : AreBytes (payload_bytes payload) =
    more_bytes packet.did (packet.sdid ∷ length (user_bytes packet) ∷ (user_bytes packet ++ checksum_byte payload ∷ [])) did
    (more_bytes packet.sdid (length (user_bytes packet) ∷ (user_bytes packet ++ checksum_byte payload ∷ [])) sdid
    (more_bytes (length (user_bytes packet)) (user_bytes packet ++ checksum_byte payload ∷ []) (omega (arith, many, count)) user)) in
    let same : packet_of packet.did packet.sdid (user_bytes packet) ≡ packet = same_packet packet (map eight_bit_word (user_bytes packet)) (words_again packet.user eight) in (
      are,
      IsPacketBytes-same_bytes packet bytes (payload_words payload) is
          (subst (λ q. IsPacketBytes q (payload_words payload)) same (payload_is_packet payload are)),
    )
