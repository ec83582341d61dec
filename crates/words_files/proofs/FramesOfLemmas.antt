-- The frames that bytes have brought: every list of bytes has some, they are one list, and more bytes bring more.
use Rattle.std.proofs.Common.{◌≡◌, ℕ, ◌⊎◌, inl, inr, List, [], ◌∷◌, ◌++◌, length, refl, ap, sym, subst, ◌∙◌, append_assoc, append-nil, length-append, arith}
use Rattle.anc_words.specs.Packets.{AncillaryPacket}
use Rattle.anc_words.specs.WordsFiles.{IsPacketBytes, IsWordsFile}
use Rattle.anc_words.proofs.PacketLemmas.{IsPacketBytes-unique}
use Rattle.anc_words.proofs.WordsFileLemmas.{IsWordsFile-first}
use Rattle.cdp_packets.specs.Packets.{Frame}
use Rattle.cdp_packets.proofs.SectionLemmas.{split_same}
use Rattle.words_files.specs.Frames.{CarryFrames, IsFileOf, none, caption, foreign}
use Rattle.anc_words.specs.Words.{AreWords}
use Rattle.words_files.specs.FramesOf.{AreFramesOf}
use Rattle.words_files.specs.Offences.{IsFileUnder}
use Rattle.words_files.specs.Layers.{Layers}
use Rattle.words_files.proofs.FrameLemmas.{carry_once, one_list}
use Rattle.words_files.proofs.WordLemmas.{front_of}

-- a list ends where its last item is, or before it
pub split_last : (bytes : List ℕ) (byte : ℕ) (other rest : List ℕ) → bytes ++ byte ∷ [] ≡ other ++ rest
    → (rest ≡ []) ⊎ ((some : List ℕ) × (bytes ≡ other ++ some))
split_last bytes byte [] rest is = inr (bytes, refl)
split_last [] byte (o ∷ []) rest is = inl (let last : [] ≡ rest = cc in sym last)
split_last [] byte (o ∷ p ∷ other) rest is = absurd (let clash : [] ≡ p ∷ (other ++ rest) = cc in cc)
split_last (b ∷ bytes) byte (o ∷ other) rest is = elim (split_last bytes byte other rest cc) [
  | inl last ↦ inl last
  | inr (some, same) ↦ inr (some, cc)
]

-- no packets are no bytes
no_words : (bytes : List ℕ) → AreWords bytes [] → bytes ≡ []
no_words [] are = refl
no_words (high ∷ []) are = absurd are
no_words (high ∷ low ∷ bytes) are = absurd are

pub empty_file : (bytes : List ℕ) → IsWordsFile [] bytes → bytes ≡ []
empty_file bytes is = no_words bytes (subst (AreWords bytes) is.are_packets is.spelled)

-- a packet has bytes
some_words : (bytes words : List ℕ) (word : ℕ) (rest : List ℕ) → AreWords bytes words → words ≡ word ∷ rest → bytes ≡ [] → ⊥
some_words bytes words word rest are spelled empty = subst (λ ws. AreWords [] ws) spelled (subst (λ bs. AreWords bs words) empty are)

pub some_packet : (p : AncillaryPacket) (bytes : List ℕ) → IsPacketBytes p bytes → bytes ≡ [] → ⊥
some_packet p bytes is = some_words bytes is.words _ _ is.spelled is.is_packet.spelled

-- the first of two lists is empty where both together are
first_empty : (front rest : List ℕ) → front ++ rest ≡ [] → front ≡ []
first_empty [] rest empty = refl
first_empty (b ∷ front) rest empty = absurd cc

-- a file at the front of a file is its first packets, and what is after it is a file of the others
pub record Behind (packets others : List AncillaryPacket) (more : List ℕ) : Type 0 where
  pub rest : List AncillaryPacket
  pub spelled : others ≡ packets ++ rest
  pub file : IsWordsFile rest more

pub file_front : (packets others : List AncillaryPacket) (bytes more : List ℕ) → IsWordsFile packets bytes → IsWordsFile others (bytes ++ more) → Behind packets others more
file_front [] others bytes more is whole =
    record { rest = others; spelled = refl; file = subst (λ bs. IsWordsFile others (bs ++ more)) (empty_file bytes is) whole }
file_front (p ∷ packets) [] bytes more is whole =
    let (front, rest, spelled, is_packet, file) = IsWordsFile-first p packets bytes is in
    let empty : front ++ (rest ++ more) ≡ [] = sym (append_assoc front rest more) ∙ ap (λ bs. bs ++ more) (sym spelled) ∙ empty_file (bytes ++ more) whole in
    absurd (some_packet p front is_packet (first_empty front (rest ++ more) empty))
file_front (p ∷ packets) (q ∷ others) bytes more is whole =
    let (front, rest, spelled, is_packet, file) = IsWordsFile-first p packets bytes is in
    let (back, after, other, is_other, others_file) = IsWordsFile-first q others (bytes ++ more) whole in
    let same : front ++ (rest ++ more) ≡ back ++ after = sym (append_assoc front rest more) ∙ ap (λ bs. bs ++ more) (sym spelled) ∙ other in
    let (packet, _, left) = IsPacketBytes-unique p q front back (rest ++ more) after is_packet is_other same in
    let next = file_front packets others rest more file (subst (IsWordsFile others) (sym left) others_file) in
    record { rest = next.rest; spelled = ap (λ r. q ∷ r) next.spelled ∙ ap (λ r. r ∷ (packets ++ next.rest)) (sym packet); file = next.file }

-- packets that carry frames, and more packets: their frames are these and more
pub record CarriesMore (rest : List AncillaryPacket) (frames others : List Frame) : Type 0 where
  pub behind : List Frame
  pub spelled : others ≡ frames ++ behind
  pub carried : CarryFrames rest behind

pub carry_front : (packets rest : List AncillaryPacket) (frames others : List Frame) → CarryFrames packets frames → CarryFrames (packets ++ rest) others
    → CarriesMore rest frames others
carry_front _ rest _ others none whole = record { behind = others; spelled = refl; carried = whole }
carry_front _ rest _ _ (caption packet packets frame frames is carries behind) (caption _ _ other others also carries_other whole) =
    let next = carry_front packets rest frames others behind whole in
    let same : other ∷ [] ≡ frame ∷ [] =
    carry_once (packet ∷ []) (other ∷ []) (frame ∷ []) (caption packet [] other [] also carries_other none) (caption packet [] frame [] is carries none) in
    record { behind = next.behind; spelled = (let first : other ≡ frame = cc in ap (λ f. f ∷ others) first) ∙ ap (λ fs. frame ∷ fs) next.spelled; carried = next.carried }
carry_front _ rest _ _ (caption packet packets frame frames is carries behind) (foreign _ _ others isnt whole) = absurd (isnt is)
carry_front _ rest _ _ (foreign packet packets frames isnt behind) (caption _ _ other others is carries_other whole) = absurd (isnt is)
carry_front _ rest _ _ (foreign packet packets frames isnt behind) (foreign _ _ others also whole) =
    carry_front packets rest frames others behind whole

-- the frames of bytes are one list
pub frames_of_once : (layers : Layers) (frames others : List Frame) (bytes : List ℕ) → AreFramesOf layers frames bytes → AreFramesOf layers others bytes → frames ≡ others
frames_of_once layers frames others bytes are also =
    let most = also.longest frames are.file are.behind are.spelled are.is_file in
    let least = are.longest others also.file also.behind also.spelled also.is_file in
    let same = split_same are.file also.file are.behind also.behind (omega (arith, most, least)) (sym are.spelled ∙ also.spelled) in
    one_list frames others are.file are.is_file.file (subst (IsFileOf others) (sym same.heads) also.is_file.file)

-- more bytes bring these frames and more
pub frames_grow : (layers : Layers) (frames others : List Frame) (bytes more : List ℕ) → AreFramesOf layers frames bytes → AreFramesOf layers others (bytes ++ more)
    → (behind : List Frame) × (others ≡ frames ++ behind)
frames_grow layers frames others bytes more are also =
    let spelled : are.file ++ (are.behind ++ more) ≡ bytes ++ more = sym (append_assoc are.file are.behind more) ∙ ap (λ bs. bs ++ more) (sym are.spelled) in
    let few = also.longest frames are.file (are.behind ++ more) (sym spelled) are.is_file in
    let (rest, longer) = front_of are.file also.file (are.behind ++ more) also.behind (spelled ∙ also.spelled) few in
    let behind = file_front are.is_file.file.packets also.is_file.file.packets are.file rest are.is_file.file.file
    (subst (IsWordsFile also.is_file.file.packets) longer also.is_file.file.file) in
    let carries = carry_front are.is_file.file.packets behind.rest frames others are.is_file.file.carried
    (subst (λ ps. CarryFrames ps others) behind.spelled also.is_file.file.carried) in
    (carries.behind, carries.spelled)

-- a file is all of its frames
pub file_frames : (layers : Layers) (frames : List Frame) (bytes : List ℕ) → IsFileUnder layers frames bytes → AreFramesOf layers frames bytes
file_frames layers frames bytes is = record {
  file = bytes;
  behind = [];
  spelled = sym (append-nil bytes);
  is_file = is;
  longest = λ others other rest same _. let e = ap length same in let long = length-append other rest in omega (arith, e, long);
}
