-- The begin of a packet can be completed: a packet without user words, or one whose open user words are 200, the 8-bit word of 0.
use Rattle.std.proofs.Common.{◌≡◌, ℕ, ◌-◌, ◌%◌, List, [], ◌∷◌, ◌++◌, length, replicate, refl, sym, subst, arith, append_assoc, append-nil, length-append, lit<}
use Rattle.std.proofs.lemmas.List.{length-replicate}
use Rattle.std.proofs.lemmas.List.Elements.{All-append, All-nil, All-replicate}
use Rattle.std.specs.List.{All}
use Rattle.anc_words.specs.Packets.{AncillaryPacket, IsPacket}
use Rattle.anc_words.specs.WordsFiles.{ArePackets}
use Rattle.anc_words.specs.Writing.{checksum_word}
use Rattle.anc_words.proofs.EightBitLemmas.{eight_bit_word-is}
use Rattle.anc_words.proofs.ChecksumLemmas.{checksum_word-is}
use Rattle.anc_words.proofs.SoundLemmas.{IsBegun, IsBody, IsByteWord, IsPacket-ended, IsUserBehind, packet_behind}

-- these words begin packets
pub record Completes (front : List ℕ) : Type 0 where
  pub more : List ℕ
  pub packets : List AncillaryPacket
  pub are : ArePackets packets (front ++ more)

-- a packet completes its first words
Completes-by : (front more : List ℕ) (p : AncillaryPacket) → IsPacket p (front ++ more) → Completes front
Completes-by front more p is = record {
  more = more;
  packets = p ∷ [];
  are = (front ++ more, [], sym (append-nil (front ++ more)), is, refl);
}

-- the 8-bit word of 0
zero_word : IsByteWord 0x200
unfolding lib.Count.ones
zero_word = eight_bit_word-is 0 (lit< tt)

-- it may be a user word
zero_user : (did sdid : ℕ) → IsUserBehind did sdid 0x200
zero_user did sdid = record { ten_bits = lit< tt; caption = λ _ _. zero_word }

-- a packet without user words
empty_body : (did sdid : ℕ) → IsByteWord did → IsByteWord sdid → IsBody 0x000 0x3FF 0x3FF did sdid 0x200 []
empty_body did sdid did_is sdid_is = record {
  first_is = refl;
  second_is = refl;
  third_is = refl;
  did_is = did_is;
  sdid_is = sdid_is;
  count_is = zero_word;
  user_are = All-nil (IsUserBehind did sdid);
  few = omega arith;
}

abbrev end_of : ℕ → ℕ → List ℕ
end_of did sdid = 0x200 ∷ checksum_word (did ∷ sdid ∷ 0x200 ∷ []) ∷ []

empty_packet : (did sdid : ℕ) → IsByteWord did → IsByteWord sdid
    → IsPacket (packet_behind did sdid []) (0x000 ∷ 0x3FF ∷ 0x3FF ∷ did ∷ sdid ∷ end_of did sdid)
empty_packet did sdid did_is sdid_is =
    IsPacket-ended 0x000 0x3FF 0x3FF did sdid 0x200 [] (checksum_word (did ∷ sdid ∷ 0x200 ∷ [])) (empty_body did sdid did_is sdid_is) refl
    (checksum_word-is (did ∷ sdid ∷ 0x200 ∷ []))

-- a body, and the user words that are left
full_body : (first second third did sdid count : ℕ) (user more : List ℕ) → IsBody first second third did sdid count user
    → All (IsUserBehind did sdid) more → length (user ++ more) ≡ count % 256 → IsBody first second third did sdid count (user ++ more)
full_body first second third did sdid count user more body are many = record {
  first_is = body.first_is;
  second_is = body.second_is;
  third_is = body.third_is;
  did_is = body.did_is;
  sdid_is = body.sdid_is;
  count_is = body.count_is;
  user_are = All-append (IsUserBehind did sdid) user more body.user_are are;
  few = omega (arith, many);
}

-- the begin of a packet can be completed
pub completes : (front : List ℕ) → IsBegun front → Completes front
completes [] begun = record { more = []; packets = []; are = refl }
completes (first ∷ []) begun =
    subst (λ z. Completes (z ∷ [])) (sym begun)
    (Completes-by (0x000 ∷ []) (0x3FF ∷ 0x3FF ∷ 0x200 ∷ 0x200 ∷ end_of 0x200 0x200) _ (empty_packet 0x200 0x200 zero_word zero_word))
completes (first ∷ second ∷ []) (one, two) =
    subst (λ z. Completes (z ∷ second ∷ [])) (sym one) (subst (λ o. Completes (0x000 ∷ o ∷ [])) (sym two)
    (Completes-by (0x000 ∷ 0x3FF ∷ []) (0x3FF ∷ 0x200 ∷ 0x200 ∷ end_of 0x200 0x200) _ (empty_packet 0x200 0x200 zero_word zero_word)))
completes (first ∷ second ∷ third ∷ []) (one, two, three) =
    rw (one, two, three)
    (Completes-by (0x000 ∷ 0x3FF ∷ 0x3FF ∷ []) (0x200 ∷ 0x200 ∷ end_of 0x200 0x200) _ (empty_packet 0x200 0x200 zero_word zero_word))
completes (first ∷ second ∷ third ∷ did ∷ []) (one, two, three, did_is) =
    rw (one, two, three)
    (Completes-by (0x000 ∷ 0x3FF ∷ 0x3FF ∷ did ∷ []) (0x200 ∷ end_of did 0x200) _ (empty_packet did 0x200 did_is zero_word))
completes (first ∷ second ∷ third ∷ did ∷ sdid ∷ []) (one, two, three, did_is, sdid_is) =
    rw (one, two, three)
    (Completes-by (0x000 ∷ 0x3FF ∷ 0x3FF ∷ did ∷ sdid ∷ []) (end_of did sdid) _ (empty_packet did sdid did_is sdid_is))
completes (first ∷ second ∷ third ∷ did ∷ sdid ∷ count ∷ user) begun =
    let n = count % 256 - length user in
    let more = replicate n 0x200 in
    let last = checksum_word (did ∷ sdid ∷ count ∷ (user ++ more)) in
    let few = begun.few in
    let many : length (user ++ more) ≡ count % 256 = omega (arith, length-append user more, length-replicate {A = ℕ} n 0x200) in
    let body = full_body first second third did sdid count user more begun (All-replicate (IsUserBehind did sdid) n 0x200 (zero_user did sdid)) many in
    let packet = IsPacket-ended first second third did sdid count (user ++ more) last body many (checksum_word-is (did ∷ sdid ∷ count ∷ (user ++ more))) in
    let front = first ∷ second ∷ third ∷ did ∷ sdid ∷ count ∷ user in
    Completes-by front (more ++ last ∷ []) (packet_behind did sdid (user ++ more))
    (subst (λ ws. IsPacket (packet_behind did sdid (user ++ more)) (first ∷ second ∷ third ∷ did ∷ sdid ∷ count ∷ ws)) (append_assoc user more (last ∷ [])) packet)
