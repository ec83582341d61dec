-- What is written is a packet, and words are at most one packet, whatever follows them.
use Rattle.std.proofs.Common.{◌≡◌, ℕ, ◌%◌, ◌<◌, ◌≤◌, List, [], ◌∷◌, ◌++◌, length, map, refl, arith, ap, sym, subst, ◌∙◌, lit<}
use Rattle.std.proofs.lemmas.List.{length-map, length-append}
use Rattle.std.proofs.lemmas.List.Elements.{All-head, All-tail, All-cons, All-append, All-nil, All-map, All-weaker, All-from_recursion, recursion_from_All}
use Rattle.std.specs.List.{All, AllByRecursion, flat_map}
use Rattle.anc_words.specs.EightBitWords.{IsEightBit}
use Rattle.anc_words.specs.Packets.{AncillaryPacket, IsCaption, IsUserWord, IsPacket, user_bytes}
use Rattle.anc_words.specs.WordsFiles.{IsPacketBytes}
use Rattle.anc_words.specs.Writing.{eight_bit_word, checksum_word, packet_words, packet_bytes, packet_of, word_bytes}
use Rattle.anc_words.proofs.EightBitLemmas.{eight_bit_word-is, IsEightBit-word}
use Rattle.anc_words.proofs.ChecksumLemmas.{checksum_word-is, IsChecksum-word}
use Rattle.anc_words.proofs.WordLemmas.{words_of, AreWords-flat_map, AreWords-bytes, words_of-append}

-- lists of one length at the heads of one list are one list
pub same_heads : (xs ys rest after : List ℕ) → length xs ≡ length ys → xs ++ rest ≡ ys ++ after → (xs ≡ ys) × (rest ≡ after)
same_heads [] [] rest after long same = (refl, same)
same_heads [] (y ∷ ys) rest after long same = absurd (omega arith)
same_heads (x ∷ xs) [] rest after long same = absurd (omega arith)
same_heads (x ∷ xs) (y ∷ ys) rest after long same =
    let tails : xs ++ rest ≡ ys ++ after = cc in
    let (heads, behind) = same_heads xs ys rest after (omega arith) tails in
    (cc, behind)

-- packets of equal parts are equal
same_packet : (p q : AncillaryPacket) → p.did ≡ q.did → p.sdid ≡ q.sdid → p.user ≡ q.user → p ≡ q
same_packet p q did sdid user =
    ap (λ (d : ℕ). let made : AncillaryPacket = record { did = d; sdid = p.sdid; user = p.user } in made) did
    ∙ ap (λ (s : ℕ). let made : AncillaryPacket = record { did = q.did; sdid = s; user = p.user } in made) sdid
    ∙ ap (λ (u : List ℕ). let made : AncillaryPacket = record { did = q.did; sdid = q.sdid; user = u } in made) user

-- words are at most one packet, whatever follows
pub IsPacket-unique : (p q : AncillaryPacket) (front back rest after : List ℕ) → IsPacket p front → IsPacket q back → front ++ rest ≡ back ++ after
    → (p ≡ q) × (front ≡ back) × (rest ≡ after)
IsPacket-unique p q front back rest after is other same =
    let first = p.user ++ is.checksum ∷ [] in
    let second = q.user ++ other.checksum ∷ [] in
    let spelled : (0x000 ∷ 0x3FF ∷ 0x3FF ∷ is.did ∷ is.sdid ∷ is.count ∷ first) ++ rest ≡ (0x000 ∷ 0x3FF ∷ 0x3FF ∷ other.did ∷ other.sdid ∷ other.count ∷ second) ++ after =
    ap (λ ws. ws ++ rest) (sym is.spelled) ∙ same ∙ ap (λ ws. ws ++ after) other.spelled in
    let did : is.did ≡ other.did = cc in
    let sdid : is.sdid ≡ other.sdid = cc in
    let count : is.count ≡ other.count = cc in
    let tails : first ++ rest ≡ second ++ after = cc in
    let many : length p.user ≡ length q.user = sym is.has_count.low_bits ∙ ap (λ n. n % 256) count ∙ other.has_count.low_bits in
    let long : length first ≡ length second = omega (arith, length-append p.user (is.checksum ∷ []), length-append q.user (other.checksum ∷ [])) in
    let (ends, behind) = same_heads first second rest after long tails in
    let (user, checksum) = same_heads p.user q.user (is.checksum ∷ []) (other.checksum ∷ []) many ends in
    let same_did : p.did ≡ q.did = sym is.has_did.low_bits ∙ ap (λ n. n % 256) did ∙ other.has_did.low_bits in
    let same_sdid : p.sdid ≡ q.sdid = sym is.has_sdid.low_bits ∙ ap (λ n. n % 256) sdid ∙ other.has_sdid.low_bits in
    let fronts : front ≡ back = cc (is.spelled, other.spelled) in
    (same_packet p q same_did same_sdid user, fronts, behind)

-- the words of a packet
abbrev words_of_packet : AncillaryPacket → List ℕ
words_of_packet p =
    let summed = eight_bit_word p.did ∷ eight_bit_word p.sdid ∷ eight_bit_word (length p.user) ∷ p.user in
    0x000 ∷ 0x3FF ∷ 0x3FF ∷ (summed ++ checksum_word summed ∷ [])

-- a packet has no other words
IsPacket-words : (p : AncillaryPacket) (words : List ℕ) → IsPacket p words → words ≡ words_of_packet p
IsPacket-words p words is =
    let did = IsEightBit-word p.did is.did is.has_did in
    let sdid = IsEightBit-word p.sdid is.sdid is.has_sdid in
    let count = IsEightBit-word (length p.user) is.count is.has_count in
    let checksum = IsChecksum-word (is.did ∷ is.sdid ∷ is.count ∷ p.user) is.checksum is.has_checksum in
    is.spelled ∙ rw (checksum, did, sdid, count) refl

-- a packet is spelled one way
pub IsPacket-same_words : (p : AncillaryPacket) (words others : List ℕ) → IsPacket p words → IsPacket p others → words ≡ others
IsPacket-same_words p words others is other = IsPacket-words p words is ∙ sym (IsPacket-words p others other)

-- the words of a packet have ten bits
pub IsPacket-ten_bits : (p : AncillaryPacket) (words : List ℕ) → IsPacket p words → All (λ word. word < 1024) words
IsPacket-ten_bits p words is =
    let P : ℕ → Type 0 = λ word. word < 1024 in
    let user = All-weaker (IsUserWord p) P (λ word has. has.ten_bits) p.user is.has_user in
    let last = All-append P p.user (is.checksum ∷ []) user (All-cons P is.checksum [] is.has_checksum.ten_bits (All-nil P)) in
    let behind = p.user ++ is.checksum ∷ [] in
    let all = All-from_recursion P (0x000 ∷ 0x3FF ∷ 0x3FF ∷ is.did ∷ is.sdid ∷ is.count ∷ behind)
    (lit< tt, (lit< tt, (lit< tt, (is.has_did.ten_bits, (is.has_sdid.ten_bits, (is.has_count.ten_bits, recursion_from_All P behind last)))))) in
    subst (All P) (sym is.spelled) all

-- the words of a packet are it
pub words_of_packet-is : (p : AncillaryPacket) → p.did < 256 → p.sdid < 256 → length p.user ≤ 255 → All (IsUserWord p) p.user
    → IsPacket p (words_of_packet p)
words_of_packet-is p did sdid few user = record {
  did = eight_bit_word p.did;
  sdid = eight_bit_word p.sdid;
  count = eight_bit_word (length p.user);
  checksum = checksum_word (eight_bit_word p.did ∷ eight_bit_word p.sdid ∷ eight_bit_word (length p.user) ∷ p.user);
  spelled = refl;
  has_did = eight_bit_word-is p.did did;
  has_sdid = eight_bit_word-is p.sdid sdid;
  has_count = eight_bit_word-is (length p.user) (omega arith);
  has_user = user;
  has_checksum = checksum_word-is (eight_bit_word p.did ∷ eight_bit_word p.sdid ∷ eight_bit_word (length p.user) ∷ p.user);
}

-- a byte's word may be a user word of any packet
eight_bit_word-user : (p : AncillaryPacket) (byte : ℕ) → byte < 256 → IsUserWord p (eight_bit_word byte)
eight_bit_word-user p byte below =
    let is = eight_bit_word-is byte below in record {
      ten_bits = is.ten_bits;
      caption = λ _. subst (λ b. IsEightBit b (eight_bit_word byte)) (sym is.low_bits) is;
    }

-- a byte
abbrev pub IsByte : ℕ → Type 0
IsByte byte = byte < 256

-- what is written is the packet
pub packet_words-is : (did sdid : ℕ) (user : List ℕ) → did < 256 → sdid < 256 → length user ≤ 255 → All IsByte user
    → IsPacket (packet_of did sdid user) (packet_words did sdid user)
packet_words-is did sdid user did_is sdid_is few bytes =
    let packet = packet_of did sdid user in
    let many : length (map eight_bit_word user) ≡ length user = length-map user eight_bit_word in
    let words = All-map (IsUserWord packet) eight_bit_word user
    (All-weaker IsByte (λ byte. IsUserWord packet (eight_bit_word byte)) (eight_bit_word-user packet) user bytes) in
    let same : words_of_packet packet ≡ packet_words did sdid user = rw many refl in
    subst (IsPacket packet) same (words_of_packet-is packet did_is sdid_is (omega arith) words)

-- and so are its bytes
pub packet_bytes-is : (did sdid : ℕ) (user : List ℕ) → did < 256 → sdid < 256 → length user ≤ 255 → All IsByte user
    → IsPacketBytes (packet_of did sdid user) (packet_bytes did sdid user)
packet_bytes-is did sdid user did_is sdid_is few bytes =
    let is = packet_words-is did sdid user did_is sdid_is few bytes in record {
      words = packet_words did sdid user;
      spelled = AreWords-flat_map (packet_words did sdid user) (IsPacket-ten_bits _ _ is);
      is_packet = is;
    }

-- its user words carry the bytes
pub user_bytes-packet_of : (did sdid : ℕ) (user : List ℕ) → All IsByte user → user_bytes (packet_of did sdid user) ≡ user
user_bytes-packet_of did sdid [] bytes = refl
user_bytes-packet_of did sdid (byte ∷ user) bytes =
    let one : eight_bit_word byte % 256 ≡ byte = (eight_bit_word-is byte (All-head IsByte byte user bytes)).low_bits in
    let more = user_bytes-packet_of did sdid user (All-tail IsByte byte user bytes) in
    cc

-- bytes are at most one packet, whatever follows
pub IsPacketBytes-unique : (p q : AncillaryPacket) (front back rest after : List ℕ) → IsPacketBytes p front → IsPacketBytes q back → front ++ rest ≡ back ++ after
    → (p ≡ q) × (front ≡ back) × (rest ≡ after)
IsPacketBytes-unique p q front back rest after is other same =
    let words : is.words ++ words_of rest ≡ other.words ++ words_of after =
    sym (words_of-append front is.words rest is.spelled) ∙ ap words_of same ∙ words_of-append back other.words after other.spelled in
    let (packets, fronts, behind) = IsPacket-unique p q is.words other.words (words_of rest) (words_of after) is.is_packet other.is_packet words in
    let spelled : front ≡ back = AreWords-bytes front is.words is.spelled ∙ ap (flat_map word_bytes) fronts ∙ sym (AreWords-bytes back other.words other.spelled) in
    let (heads, tails) = same_heads front back rest after (ap length spelled) same in
    (packets, spelled, tails)

-- a packet is spelled one way in bytes
pub IsPacketBytes-same_bytes : (p : AncillaryPacket) (bytes others : List ℕ) → IsPacketBytes p bytes → IsPacketBytes p others → bytes ≡ others
IsPacketBytes-same_bytes p bytes others is other =
    AreWords-bytes bytes is.words is.spelled ∙ ap (flat_map word_bytes) (IsPacket-same_words p is.words other.words is.is_packet other.is_packet)
    ∙ sym (AreWords-bytes others other.words other.spelled)

-- what was written is read back, whatever follows
pub packet_bytes-read : (did sdid : ℕ) (user : List ℕ) (p : AncillaryPacket) (front rest after : List ℕ)
    → did < 256 → sdid < 256 → length user ≤ 255 → All IsByte user
    → IsPacketBytes p front → packet_bytes did sdid user ++ rest ≡ front ++ after
    → (p.did ≡ did) × (p.sdid ≡ sdid) × (user_bytes p ≡ user) × (after ≡ rest)
packet_bytes-read did sdid user p front rest after did_is sdid_is few bytes is same =
    let written = packet_bytes-is did sdid user did_is sdid_is few bytes in
    let (packets, fronts, behind) = IsPacketBytes-unique (packet_of did sdid user) p (packet_bytes did sdid user) front rest after written is same in (
      sym (ap (λ (r : AncillaryPacket). r.did) packets),
      sym (ap (λ (r : AncillaryPacket). r.sdid) packets),
      sym (ap user_bytes packets) ∙ user_bytes-packet_of did sdid user bytes,
      sym behind,
    )

-- each packet that can be sent has bytes
pub packet-bytes : (p : AncillaryPacket) → p.did < 256 → p.sdid < 256 → length p.user ≤ 255 → All (IsUserWord p) p.user
    → (bytes : List ℕ) × IsPacketBytes p bytes
packet-bytes p did sdid few user =
    let is = words_of_packet-is p did sdid few user in (
      flat_map word_bytes (words_of_packet p),
      record { words = words_of_packet p; spelled = AreWords-flat_map (words_of_packet p) (IsPacket-ten_bits p _ is); is_packet = is },
    )

-- 8-bit words are the words of their own bytes
words_of_bytes : (words : List ℕ) → AllByRecursion (λ word. IsEightBit (word % 256) word) words
    → map eight_bit_word (map (λ word. word % 256) words) ≡ words
words_of_bytes [] are = refl
words_of_bytes (word ∷ words) (is, are) =
    let one : word ≡ eight_bit_word (word % 256) = IsEightBit-word (word % 256) word is in
    let more = words_of_bytes words are in
    cc

-- the bytes of words are bytes
bytes_of_words : (words : List ℕ) → All IsByte (map (λ word. word % 256) words)
bytes_of_words words = All-map IsByte (λ word. word % 256) words (λ k d below. omega arith)

-- captions are only those that are written
pub IsPacketBytes-caption : (p : AncillaryPacket) (bytes : List ℕ) → IsCaption p → IsPacketBytes p bytes → bytes ≡ packet_bytes p.did p.sdid (user_bytes p)
IsPacketBytes-caption p bytes caption is =
    let Eight : ℕ → Type 0 = λ word. IsEightBit (word % 256) word in
    let packet = is.is_packet in
    let eight = recursion_from_All Eight p.user (All-weaker (IsUserWord p) Eight (λ word has. has.caption caption) p.user packet.has_user) in
    let count = packet.has_count.low_bits in
    let did : p.did < 256 = omega (arith, packet.has_did.low_bits) in
    let sdid : p.sdid < 256 = omega (arith, packet.has_sdid.low_bits) in
    let many : length (user_bytes p) ≡ length p.user = length-map p.user (λ word. word % 256) in
    let same : packet_of p.did p.sdid (user_bytes p) ≡ p = same_packet (packet_of p.did p.sdid (user_bytes p)) p refl refl (words_of_bytes p.user eight) in
    let written = packet_bytes-is p.did p.sdid (user_bytes p) did sdid (omega arith) (bytes_of_words p.user) in
    IsPacketBytes-same_bytes p bytes (packet_bytes p.did p.sdid (user_bytes p)) is
    (subst (λ q. IsPacketBytes q (packet_bytes p.did p.sdid (user_bytes p))) same written)
