-- What the bytes of an ancillary packet say.
use Rattle.std.proofs.Common.{◌≡◌, ◌≢◌, ℕ, Bool, true, false, IsTrue, zero, suc, ◌+◌, ◌*◌, ◌/◌, ◌%◌, ◌<◌, ◌≤◌, ◌++◌, List, [], ◌∷◌, length, map, take, get_or, refl, ap, sym, subst, ◌∙◌, append-nil, length-append, arith}
use Rattle.std.specs.List.{All, flat_map}
use Rattle.std.proofs.lemmas.List.{get_or_append_left, get_or-append-add, get_or-map, length-map, take_all, take_more}
use Rattle.std.proofs.lemmas.List.Elements.{All-map, All-weaker}
use Rattle.anc_words.specs.EightBitWords.{IsEightBit}
use Rattle.anc_words.specs.Packets.{AncillaryPacket, user_bytes}
use Rattle.anc_words.specs.WordsFiles.{IsPacketBytes}
use Rattle.anc_words.specs.Writing.{eight_bit_word, packet_bytes, packet_of, word_bytes}
use Rattle.anc_words.proofs.EightBitLemmas.{eight_bit_word-is}
use Rattle.anc_words.proofs.PacketLemmas.{IsByte, IsPacketBytes-unique, packet_bytes-is}
use Rattle.anc_words.proofs.WordLemmas.{AreWords-bytes}
use Rattle.mcc_files.proofs.WordLemmas.{low_bytes, packet_is_payload}
use Rattle.mcc_files.specs.Payloads.{Payload}
use Rattle.mcc_files.specs.PayloadWords.{payload_of}
use Rattle.words_reading.proofs.SizeLemmas.{packet_size}
use Rattle.mcc_commands.specs.Exported.{IsOfBytes}

-- the low byte of a word among others
low_at : (words : List ℕ) (k : ℕ) → k < length words → get_or (flat_map word_bytes words) (1 + 2 * k) 0 ≡ get_or words k 0 % 256
low_at [] k below = absurd (omega (arith, below))
low_at (word ∷ words) zero below = refl
low_at (word ∷ words) (suc k) below =
    let past : 1 + 2 * suc k ≡ suc (suc (1 + 2 * k)) = omega arith in
    ap (λ i. get_or (flat_map word_bytes (word ∷ words)) i 0) past ∙ low_at words k (omega (arith, below))

-- what stands at which place of a packet's bytes
pub record HasPlaces (packet : AncillaryPacket) (bytes : List ℕ) : Type 0 where
  pub size : length bytes ≡ 14 + 2 * length packet.user
  pub few : length packet.user < 256
  pub did : get_or bytes 7 0 ≡ packet.did
  pub sdid : get_or bytes 9 0 ≡ packet.sdid
  pub count : get_or bytes 11 0 ≡ length packet.user
  pub user : (k : ℕ) → k < length packet.user → get_or bytes (13 + 2 * k) 0 ≡ get_or (user_bytes packet) k 0

pub packet_places : (packet : AncillaryPacket) (bytes : List ℕ) → IsPacketBytes packet bytes → HasPlaces packet bytes
packet_places packet bytes is =
    let p = is.is_packet in
    let rest = packet.user ++ p.checksum ∷ [] in
    let all : bytes ≡ flat_map word_bytes (0x000 ∷ 0x3FF ∷ 0x3FF ∷ p.did ∷ p.sdid ∷ p.count ∷ rest) =
    AreWords-bytes bytes is.words is.spelled ∙ ap (flat_map word_bytes) p.spelled in
    let did : get_or bytes 7 0 ≡ p.did % 256 = ap (λ b. get_or b 7 0) all in
    let sdid : get_or bytes 9 0 ≡ p.sdid % 256 = ap (λ b. get_or b 9 0) all in
    let count : get_or bytes 11 0 ≡ p.count % 256 = ap (λ b. get_or b 11 0) all in
    let many : get_or bytes 11 0 ≡ length packet.user = count ∙ p.has_count.low_bits in
    let size = (packet_size packet bytes is).size in
    let front = 0x000 / 256 ∷ 0x000 % 256 ∷ 0x3FF / 256 ∷ 0x3FF % 256 ∷ 0x3FF / 256 ∷ 0x3FF % 256
    ∷ p.did / 256 ∷ p.did % 256 ∷ p.sdid / 256 ∷ p.sdid % 256 ∷ p.count / 256 ∷ p.count % 256 ∷ [] in
    record {
      size = omega (arith, size, many);
      few = omega (arith, p.has_count.low_bits);
      did = did ∙ p.has_did.low_bits;
      sdid = sdid ∙ p.has_sdid.low_bits;
      count = many;
      user = λ k below.
          let place : 13 + 2 * k ≡ 12 + (1 + 2 * k) = omega arith in
          let within : k < length rest = omega (arith, below, length-append packet.user (p.checksum ∷ [])) in
          ap (λ b. get_or b (13 + 2 * k) 0) all
          ∙ (ap (λ i. get_or (front ++ flat_map word_bytes rest) i 0) place
          ∙ (get_or-append-add front (flat_map word_bytes rest) (1 + 2 * k) 0
          ∙ (low_at rest k within
          ∙ (ap (λ w. w % 256) (get_or_append_left packet.user (p.checksum ∷ []) 0 k below)
          ∙ sym (get_or-map (λ w. w % 256) packet.user k 0 0 below)))));
    }

-- the user bytes so far, and one more
pub user_more : (packet : AncillaryPacket) (bytes user : List ℕ) (k : ℕ) → HasPlaces packet bytes → k < length packet.user → user ≡ take k (user_bytes packet)
    → user ++ get_or bytes (13 + 2 * k) 0 ∷ [] ≡ take (k + 1) (user_bytes packet)
user_more packet bytes user k has below so_far =
    let within : k < length (user_bytes packet) = omega (arith, below, length-map packet.user (λ word. word % 256)) in
    ap (λ u. u ++ get_or bytes (13 + 2 * k) 0 ∷ []) so_far
    ∙ (ap (λ b. take k (user_bytes packet) ++ b ∷ []) (has.user k below) ∙ sym (take_more (user_bytes packet) k 0 within))

-- what a payload is, part by part
pub payload_is : (packet : AncillaryPacket) (did sdid : ℕ) (user : List ℕ) → did ≡ packet.did → sdid ≡ packet.sdid → user ≡ user_bytes packet
    → let payload : Payload = record { did = did; sdid = sdid; user = user } in payload ≡ payload_of packet
payload_is packet did sdid user did_is sdid_is user_is =
    ap (λ (d : ℕ). let p : Payload = record { did = d; sdid = sdid; user = user } in p) did_is
    ∙ (ap (λ (s : ℕ). let p : Payload = record { did = packet.did; sdid = s; user = user } in p) sdid_is
    ∙ ap (λ (u : List ℕ). let p : Payload = record { did = packet.did; sdid = packet.sdid; user = u } in p) user_is)

-- 8-bit words
words_eight : (user : List ℕ) → All IsByte user → All (λ word. IsEightBit (word % 256) word) (map eight_bit_word user)
words_eight user are =
    All-map (λ word. IsEightBit (word % 256) word) eight_bit_word user
    (All-weaker IsByte (λ byte. IsEightBit (eight_bit_word byte % 256) (eight_bit_word byte))
    (λ byte below. let is = eight_bit_word-is byte below in subst (λ b. IsEightBit b (eight_bit_word byte)) (sym is.low_bits) is) user are)

-- a packet that is written of what it says is one of bytes
pub of_bytes : (packet : AncillaryPacket) (bytes : List ℕ) → IsPacketBytes packet bytes → packet_bytes packet.did packet.sdid (user_bytes packet) ≡ bytes → IsOfBytes packet
of_bytes packet bytes is same =
    let p = is.is_packet in
    let did : packet.did < 256 = omega (arith, p.has_did.low_bits) in
    let sdid : packet.sdid < 256 = omega (arith, p.has_sdid.low_bits) in
    let few : length (user_bytes packet) ≤ 255 = omega (arith, p.has_count.low_bits, length-map packet.user (λ word. word % 256)) in
    let small = low_bytes packet.user in
    let written = packet_bytes-is packet.did packet.sdid (user_bytes packet) did sdid few small in
    let one = IsPacketBytes-unique packet (packet_of packet.did packet.sdid (user_bytes packet)) bytes (packet_bytes packet.did packet.sdid (user_bytes packet)) [] [] is written
    (append-nil bytes ∙ (sym same ∙ sym (append-nil (packet_bytes packet.did packet.sdid (user_bytes packet))))) in
    subst IsOfBytes (sym one.0) (words_eight (user_bytes packet) small)

-- and one of bytes is written of what it says
pub written_again : (packet : AncillaryPacket) (bytes : List ℕ) → IsPacketBytes packet bytes → IsOfBytes packet → bytes ≡ packet_bytes packet.did packet.sdid (user_bytes packet)
written_again packet bytes is eight = (packet_is_payload packet bytes eight is).1

-- so a test whether it is tells whether a packet is one of bytes
pub tells_of_bytes : (packet : AncillaryPacket) (bytes words : List ℕ) (test : Bool) → IsPacketBytes packet bytes
    → words ≡ packet_bytes packet.did packet.sdid (user_bytes packet) → (true ≡ test → words ≡ bytes) → (false ≡ test → words ≢ bytes)
    → (IsTrue test → IsOfBytes packet) × (IsOfBytes packet → IsTrue test)
tells_of_bytes packet bytes words true is words_are same other = (λ yes. of_bytes packet bytes is (sym words_are ∙ same refl), λ eight. refl)
tells_of_bytes packet bytes words false is words_are same other =
    (λ yes. absurd cc, λ eight. absurd (other refl (words_are ∙ sym (written_again packet bytes is eight))))

-- the user bytes are whole
pub user_whole : (packet : AncillaryPacket) (user : List ℕ) (k count : ℕ) → take k user ≡ take k (user_bytes packet) → k ≡ count → length packet.user ≤ k
    → take count user ≡ user_bytes packet
user_whole packet user k count so_far is past =
    ap (λ (n : ℕ). take n user) (sym is) ∙ (so_far ∙ take_all k (user_bytes packet) (omega (arith, past, length-map packet.user (λ word. word % 256))))
