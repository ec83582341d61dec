-- Words files are put one after another, and each is at most one list of packets.
use Rattle.std.proofs.Common.{◌≡◌, ℕ, List, [], ◌∷◌, ◌++◌, append_assoc, append-nil, refl, ap, sym, subst, ◌∙◌}
use Rattle.anc_words.specs.Words.{AreWords}
use Rattle.anc_words.specs.Packets.{AncillaryPacket, IsPacket}
use Rattle.anc_words.specs.WordsFiles.{ArePackets, IsPacketBytes, IsWordsFile}
use Rattle.anc_words.proofs.WordLemmas.{AreWords-words, AreWords-append, AreWords-split}
use Rattle.anc_words.proofs.PacketLemmas.{IsPacket-unique}

-- a packet isn't empty
IsPacket-filled : (p : AncillaryPacket) (front rest : List ℕ) → IsPacket p front → front ++ rest ≡ [] → ⊥
IsPacket-filled p front rest is empty =
    let spelled : (0x000 ∷ 0x3FF ∷ 0x3FF ∷ is.did ∷ is.sdid ∷ is.count ∷ (p.user ++ is.checksum ∷ [])) ++ rest ≡ [] =
    ap (λ ws. ws ++ rest) (sym is.spelled) ∙ empty in
    cc

-- words are at most one list of packets
pub ArePackets-unique : (ps qs : List AncillaryPacket) (words : List ℕ) → ArePackets ps words → ArePackets qs words → ps ≡ qs
ArePackets-unique [] [] words are other = refl
ArePackets-unique [] (q ∷ qs) words are (front, rest, spelled, is, others) = absurd (IsPacket-filled q front rest is (sym spelled ∙ are))
ArePackets-unique (p ∷ ps) [] words (front, rest, spelled, is, are) others = absurd (IsPacket-filled p front rest is (sym spelled ∙ others))
ArePackets-unique (p ∷ ps) (q ∷ qs) words (front, rest, spelled, is, are) (back, after, other, is_other, others) =
    let (packets, fronts, behind) = IsPacket-unique p q front back rest after is is_other (sym spelled ∙ other) in
    let more = ArePackets-unique ps qs rest are (subst (ArePackets qs) (sym behind) others) in
    cc

-- packets and more packets
pub ArePackets-append : (ps qs : List AncillaryPacket) (words more : List ℕ) → ArePackets ps words → ArePackets qs more → ArePackets (ps ++ qs) (words ++ more)
ArePackets-append [] qs words more are next = rw are next
ArePackets-append (p ∷ ps) qs words more (front, rest, spelled, is, are) next =
    (front, rest ++ more, ap (λ ws. ws ++ more) spelled ∙ append_assoc front rest more, is, ArePackets-append ps qs rest more are next)

-- a file is at most one list of packets
pub IsWordsFile-unique : (ps qs : List AncillaryPacket) (bytes : List ℕ) → IsWordsFile ps bytes → IsWordsFile qs bytes → ps ≡ qs
IsWordsFile-unique ps qs bytes is other =
    let words : other.words ≡ is.words = sym (AreWords-words bytes other.words other.spelled) ∙ AreWords-words bytes is.words is.spelled in
    ArePackets-unique ps qs is.words is.are_packets (subst (ArePackets qs) words other.are_packets)

-- a file and another are a file
pub IsWordsFile-append : (ps qs : List AncillaryPacket) (bytes more : List ℕ) → IsWordsFile ps bytes → IsWordsFile qs more → IsWordsFile (ps ++ qs) (bytes ++ more)
IsWordsFile-append ps qs bytes more is next = record {
  words = is.words ++ next.words;
  spelled = AreWords-append bytes is.words more next.words is.spelled next.spelled;
  are_packets = ArePackets-append ps qs is.words next.words is.are_packets next.are_packets;
}

-- no bytes are a file of no packet
pub IsWordsFile-nil : IsWordsFile [] []
IsWordsFile-nil = record { words = []; spelled = tt; are_packets = refl }

-- a packet is a file
pub IsWordsFile-one : (p : AncillaryPacket) (bytes : List ℕ) → IsPacketBytes p bytes → IsWordsFile (p ∷ []) bytes
IsWordsFile-one p bytes is = record {
  words = is.words;
  spelled = is.spelled;
  are_packets = (is.words, [], sym (append-nil is.words), is.is_packet, refl);
}

-- a file's first packet, and the rest
pub IsWordsFile-first : (p : AncillaryPacket) (ps : List AncillaryPacket) (bytes : List ℕ) → IsWordsFile (p ∷ ps) bytes
    → (front : List ℕ) × (rest : List ℕ) × (bytes ≡ front ++ rest) × IsPacketBytes p front × IsWordsFile ps rest
IsWordsFile-first p ps bytes is =
    let (words, others, spelled, is_packet, are) = is.are_packets in
    let (front, rest, bytes_are, first, second) = AreWords-split bytes words others (subst (AreWords bytes) spelled is.spelled) in (
      front,
      rest,
      bytes_are,
      record { words = words; spelled = first; is_packet = is_packet },
      record { words = others; spelled = second; are_packets = are },
    )
