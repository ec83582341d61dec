-- Packets are read: none of their words is refused, they make the packets' parts, and nothing is open after them.
use Rattle.std.proofs.Common.{◌≡◌, ℕ, ◌+◌, ◌%◌, ◌<◌, ◌≤◌, ◌==◌, ◌||◌, not, nat_lt, if◌then◌else◌, Bool, true, false, List, [], ◌∷◌, ◌++◌, length, map, refl, ap, sym, subst, ◌∙◌, arith, append_assoc, append-nil, length-append, eq-eqb}
use Rattle.std.proofs.lemmas.Bool.{and_parts}
use Rattle.std.proofs.lemmas.Bool.Decides.{nat_tests}
use Rattle.std.proofs.lemmas.List.Elements.{recursion_from_All, All-weaker}
use Rattle.std.specs.List.{AllByRecursion, flat_map}
use Rattle.cc_base.specs.declared.step.Step.{Step}
use Rattle.cc_base.specs.declared.step.Step.TheVariants.{Nothing, One, Refuse}
use Rattle.cc_base.specs.declared.why.Why.TheVariants as why
use Rattle.cc_base.specs.Syntax.{Reads}
use Rattle.cc_base.proofs.SyntaxLemmas.{Reads-append, Reads-item, Reads-nothing}
use Rattle.anc_words.specs.declared.parts.WordPart.{WordPart}
use Rattle.anc_words.specs.declared.parts.WordPart.TheVariants as part
use Rattle.anc_words.specs.EightBitWords.{IsEightBit}
use Rattle.anc_words.specs.Packets.{AncillaryPacket, IsUserWord, IsPacket}
use Rattle.anc_words.specs.WordsFiles.{ArePackets}
use Rattle.anc_words.specs.Writing.{eight_bit_word, checksum_word}
use Rattle.anc_words.specs.Reading.{word_syntax, is_caption, is_eight_bit, judge_ten_bits, judge_word, packet_parts, words_after}
use Rattle.anc_words.proofs.EightBitLemmas.{IsEightBit-word}
use Rattle.anc_words.proofs.ChecksumLemmas.{IsChecksum-word}

-- a word of ten bits is judged by its position
pub judge_word-below : (words : List ℕ) (word : ℕ) → word < 1024 → judge_word words word ≡ judge_ten_bits words word
judge_word-below words word below =
    let test : nat_lt word 0x400 ≡ true = grind (arith, nat_tests) in
    ap (λ (t : Bool). if t then judge_ten_bits words word else Refuse why.HighBits) test

-- 8-bit words pass
pub is_eight_bit-true : (word : ℕ) → IsEightBit (word % 256) word → is_eight_bit word ≡ true
is_eight_bit-true word is = eq-eqb word (eight_bit_word (word % 256)) (IsEightBit-word (word % 256) word is)

-- the word may be a user word after these identifiers
abbrev pub FitsUser : ℕ → ℕ → ℕ → Type 0
FitsUser did sdid word = (word < 1024) × ((is_eight_bit word || not (is_caption did sdid)) ≡ true)

-- one of them, unless the other
or_not : (b c : Bool) → (c ≡ true → b ≡ true) → (b || not c) ≡ true
or_not true c follows = refl
or_not false true follows = follows refl
or_not false false follows = refl

-- the identifiers are a caption packet's
pub is_caption-is : (did sdid : ℕ) → is_caption did sdid ≡ true → (did % 256 ≡ 0x61) × (sdid % 256 ≡ 0x01)
is_caption-is did sdid is =
    let (one, two) = and_parts (did % 256 == 0x61) (sdid % 256 == 0x01) is in
    (grind (arith, nat_tests), grind (arith, nat_tests))

-- the user words of a packet pass
FitsUser-from : (p : AncillaryPacket) (did sdid word : ℕ) → did % 256 ≡ p.did → sdid % 256 ≡ p.sdid → IsUserWord p word → FitsUser did sdid word
FitsUser-from p did sdid word did_is sdid_is is = (
  is.ten_bits,
  or_not (is_eight_bit word) (is_caption did sdid) (λ caption.
      let (one, two) = is_caption-is did sdid caption in
      is_eight_bit-true word (is.caption (sym did_is ∙ one, sym sdid_is ∙ two))),
)

-- the flag, the identifiers and the count
pub Reads-head : (did sdid count : ℕ) → IsEightBit (did % 256) did → IsEightBit (sdid % 256) sdid → IsEightBit (count % 256) count
    → Reads word_syntax [] (0x000 ∷ 0x3FF ∷ 0x3FF ∷ did ∷ sdid ∷ count ∷ []) (part.Start (did % 256) (sdid % 256) (count % 256) ∷ [])
    (0x000 ∷ 0x3FF ∷ 0x3FF ∷ did ∷ sdid ∷ count ∷ [])
Reads-head did sdid count did_is sdid_is count_is =
    let start : Step WordPart = One (part.Start (did % 256) (sdid % 256) (count % 256)) in
    Reads-item word_syntax [] 0x000 _ Nothing (0x000 ∷ []) _ _ refl tt refl
    (Reads-item word_syntax (0x000 ∷ []) 0x3FF _ Nothing (0x000 ∷ 0x3FF ∷ []) _ _ refl tt refl
    (Reads-item word_syntax (0x000 ∷ 0x3FF ∷ []) 0x3FF _ Nothing (0x000 ∷ 0x3FF ∷ 0x3FF ∷ []) _ _ refl tt refl
    (Reads-item word_syntax (0x000 ∷ 0x3FF ∷ 0x3FF ∷ []) did _ Nothing (0x000 ∷ 0x3FF ∷ 0x3FF ∷ did ∷ []) _ _
    (judge_word-below (0x000 ∷ 0x3FF ∷ 0x3FF ∷ []) did did_is.ten_bits
    ∙ ap (λ (t : Bool). let s : Step WordPart = if t then Nothing else Refuse why.WordParity in s) (is_eight_bit-true did did_is)) tt refl
    (Reads-item word_syntax (0x000 ∷ 0x3FF ∷ 0x3FF ∷ did ∷ []) sdid _ Nothing (0x000 ∷ 0x3FF ∷ 0x3FF ∷ did ∷ sdid ∷ []) _ _
    (judge_word-below (0x000 ∷ 0x3FF ∷ 0x3FF ∷ did ∷ []) sdid sdid_is.ten_bits
    ∙ ap (λ (t : Bool). let s : Step WordPart = if t then Nothing else Refuse why.WordParity in s) (is_eight_bit-true sdid sdid_is)) tt refl
    (Reads-item word_syntax (0x000 ∷ 0x3FF ∷ 0x3FF ∷ did ∷ sdid ∷ []) count [] start (0x000 ∷ 0x3FF ∷ 0x3FF ∷ did ∷ sdid ∷ count ∷ []) [] _
    (judge_word-below (0x000 ∷ 0x3FF ∷ 0x3FF ∷ did ∷ sdid ∷ []) count count_is.ten_bits
    ∙ ap (λ (t : Bool). if t then start else Refuse why.WordParity) (is_eight_bit-true count count_is)) tt refl
    (Reads-nothing word_syntax (0x000 ∷ 0x3FF ∷ 0x3FF ∷ did ∷ sdid ∷ count ∷ [])))))))

-- user words
pub Reads-users : (first second third did sdid count : ℕ) (done user : List ℕ) → length done + length user ≤ count % 256
    → AllByRecursion (FitsUser did sdid) user
    → Reads word_syntax (first ∷ second ∷ third ∷ did ∷ sdid ∷ count ∷ done) user (map part.User user) (first ∷ second ∷ third ∷ did ∷ sdid ∷ count ∷ (done ++ user))
Reads-users first second third did sdid count done [] few fit =
    subst (λ ws. Reads word_syntax (first ∷ second ∷ third ∷ did ∷ sdid ∷ count ∷ done) [] [] (first ∷ second ∷ third ∷ did ∷ sdid ∷ count ∷ ws))
    (sym (append-nil done)) (Reads-nothing word_syntax (first ∷ second ∷ third ∷ did ∷ sdid ∷ count ∷ done))
Reads-users first second third did sdid count done (word ∷ user) few ((below, passes), fit) =
    let front = first ∷ second ∷ third ∷ did ∷ sdid ∷ count ∷ done in
    let more : nat_lt (length done) (count % 256) ≡ true = grind (arith, nat_tests) in
    let rest = Reads-users first second third did sdid count (done ++ word ∷ []) user (omega (arith, length-append done (word ∷ []))) fit in
    let judged : judge_word front word ≡ One (part.User word) =
    judge_word-below front word below
    ∙ ap (λ (t : Bool). let s : Step WordPart = if t then (if is_eight_bit word || not (is_caption did sdid) then One (part.User word) else Refuse why.WordParity)
    else if word == checksum_word (did ∷ sdid ∷ count ∷ done) then One part.End else Refuse why.AncSum in s) more
    ∙ ap (λ (t : Bool). let s : Step WordPart = if t then One (part.User word) else Refuse why.WordParity in s) passes in
    let after : words_after front word ≡ first ∷ second ∷ third ∷ did ∷ sdid ∷ count ∷ (done ++ word ∷ []) =
    ap (λ (t : Bool). if t then first ∷ second ∷ third ∷ did ∷ sdid ∷ count ∷ (done ++ word ∷ []) else []) more in
    subst (λ ws. Reads word_syntax front (word ∷ user) (part.User word ∷ map part.User user) (first ∷ second ∷ third ∷ did ∷ sdid ∷ count ∷ ws))
    (append_assoc done (word ∷ []) user)
    (Reads-item word_syntax front word user (One (part.User word)) _ _ _ judged tt after rest)

-- the checksum word
pub Reads-checksum : (first second third did sdid count : ℕ) (user : List ℕ) (checksum : ℕ) → length user ≡ count % 256
    → checksum < 1024 → checksum ≡ checksum_word (did ∷ sdid ∷ count ∷ user)
    → Reads word_syntax (first ∷ second ∷ third ∷ did ∷ sdid ∷ count ∷ user) (checksum ∷ []) (part.End ∷ []) []
Reads-checksum first second third did sdid count user checksum many below is =
    let front = first ∷ second ∷ third ∷ did ∷ sdid ∷ count ∷ user in
    let full : nat_lt (length user) (count % 256) ≡ false = grind (arith, nat_tests) in
    let judged : judge_word front checksum ≡ One part.End =
    judge_word-below front checksum below
    ∙ ap (λ (t : Bool). let s : Step WordPart = if t then (if is_eight_bit checksum || not (is_caption did sdid) then One (part.User checksum) else Refuse why.WordParity)
    else if checksum == checksum_word (did ∷ sdid ∷ count ∷ user) then One part.End else Refuse why.AncSum in s) full
    ∙ ap (λ (t : Bool). let s : Step WordPart = if t then One part.End else Refuse why.AncSum in s) (eq-eqb checksum (checksum_word (did ∷ sdid ∷ count ∷ user)) is) in
    let after : words_after front checksum ≡ [] =
    ap (λ (t : Bool). if t then first ∷ second ∷ third ∷ did ∷ sdid ∷ count ∷ (user ++ checksum ∷ []) else []) full in
    Reads-item word_syntax front checksum [] (One part.End) [] [] [] judged tt after (Reads-nothing word_syntax [])

-- a packet
pub Reads-packet : (p : AncillaryPacket) (words : List ℕ) → IsPacket p words → Reads word_syntax [] words (packet_parts p) []
Reads-packet p words is =
    let did_is = subst (λ v. IsEightBit v is.did) (sym is.has_did.low_bits) is.has_did in
    let sdid_is = subst (λ v. IsEightBit v is.sdid) (sym is.has_sdid.low_bits) is.has_sdid in
    let count_is = subst (λ v. IsEightBit v is.count) (sym is.has_count.low_bits) is.has_count in
    let Fits = FitsUser is.did is.sdid in
    let fit = recursion_from_All Fits p.user
    (All-weaker (IsUserWord p) Fits (λ word has. FitsUser-from p is.did is.sdid word is.has_did.low_bits is.has_sdid.low_bits has) p.user is.has_user) in
    let head = Reads-head is.did is.sdid is.count did_is sdid_is count_is in
    let users = Reads-users 0x000 0x3FF 0x3FF is.did is.sdid is.count [] p.user (omega (arith, is.has_count.low_bits)) fit in
    let last = Reads-checksum 0x000 0x3FF 0x3FF is.did is.sdid is.count p.user is.checksum (sym is.has_count.low_bits) is.has_checksum.ten_bits
    (IsChecksum-word (is.did ∷ is.sdid ∷ is.count ∷ p.user) is.checksum is.has_checksum) in
    let body = Reads-append word_syntax _ p.user (map part.User p.user) _ (is.checksum ∷ []) (part.End ∷ []) [] users last in
    let whole = Reads-append word_syntax [] _ _ _ (p.user ++ is.checksum ∷ []) (map part.User p.user ++ part.End ∷ []) [] head body in
    subst (λ ws. Reads word_syntax [] ws (packet_parts p) []) (sym is.spelled)
    (rw (← is.has_did.low_bits, ← is.has_sdid.low_bits, ← is.has_count.low_bits) whole)

-- packets
pub Reads-packets : (ps : List AncillaryPacket) (words : List ℕ) → ArePackets ps words → Reads word_syntax [] words (flat_map packet_parts ps) []
Reads-packets [] words are = subst (λ ws. Reads word_syntax [] ws [] []) (sym are) (Reads-nothing word_syntax [])
Reads-packets (p ∷ ps) words (front, rest, spelled, is, are) =
    subst (λ ws. Reads word_syntax [] ws (flat_map packet_parts (p ∷ ps)) []) (sym spelled)
    (Reads-append word_syntax [] front (packet_parts p) [] rest (flat_map packet_parts ps) [] (Reads-packet p front is) (Reads-packets ps rest are))
