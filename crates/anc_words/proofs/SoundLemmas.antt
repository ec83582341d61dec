-- What is read is packets, and the begin of one more, which can be completed.
use Rattle.std.proofs.Common.{◌≡◌, ℕ, ◌%◌, ◌<◌, ◌≤◌, ◌==◌, ◌||◌, ◌⊎◌, inl, inr, not, nat_lt, if◌then◌else◌, Bool, true, false, List, [], ◌∷◌, ◌++◌, length, refl, ap, sym, subst, ◌∙◌, arith, append_assoc, append-nil, length-append}
use Rattle.std.proofs.lemmas.Bool.Decides.{nat_tests}
use Rattle.std.proofs.lemmas.List.Elements.{All-append, All-cons, All-nil, All-weaker}
use Rattle.std.specs.Bool.{⊤}
use Rattle.std.specs.List.{All}
use Rattle.cc_base.specs.declared.step.Step.{Step}
use Rattle.cc_base.specs.declared.step.Step.TheVariants.{Nothing, One, Refuse}
use Rattle.cc_base.specs.declared.why.Why.{Why}
use Rattle.cc_base.specs.declared.why.Why.TheVariants as why
use Rattle.cc_base.specs.Steps.{IsTaken, front_from}
use Rattle.cc_base.specs.Syntax.{AllTaken}
use Rattle.anc_words.specs.declared.parts.WordPart.{WordPart}
use Rattle.anc_words.specs.declared.parts.WordPart.TheVariants as part
use Rattle.anc_words.specs.EightBitWords.{IsEightBit}
use Rattle.anc_words.specs.Checksums.{IsChecksum}
use Rattle.anc_words.specs.Packets.{AncillaryPacket, IsUserWord, IsPacket}
use Rattle.anc_words.specs.WordsFiles.{ArePackets}
use Rattle.anc_words.specs.Writing.{eight_bit_word, checksum_word}
use Rattle.anc_words.specs.Reading.{word_syntax, is_caption, is_eight_bit, judge_ten_bits, judge_word, words_after}
use Rattle.anc_words.proofs.EightBitLemmas.{eight_bit_word-is}
use Rattle.anc_words.proofs.ChecksumLemmas.{checksum_word-is}

-- a step that isn't a refusal
pub IsTaken-if : (test : Bool) (step : Step WordPart) (reason : Why) → IsTaken (if test then step else Refuse reason) → (test ≡ true) × IsTaken step
IsTaken-if true step reason is = (refl, is)
IsTaken-if false step reason is = absurd is

-- tests of numbers
pub test-below : (word n : ℕ) → nat_lt word n ≡ true → word < n
test-below word n is = grind (arith, nat_tests)

test-same : (a b : ℕ) → (a == b) ≡ true → a ≡ b
test-same a b is = grind (arith, nat_tests)

-- a word that passes is an 8-bit word
pub IsEightBit-passed : (word : ℕ) → is_eight_bit word ≡ true → IsEightBit (word % 256) word
IsEightBit-passed word is =
    subst (IsEightBit (word % 256)) (sym (test-same word (eight_bit_word (word % 256)) is)) (eight_bit_word-is (word % 256) (omega arith))

-- a user word after these identifiers: a caption packet's are 8-bit words
pub record IsUserBehind (did sdid word : ℕ) : Type 0 where
  pub ten_bits : word < 1024
  pub caption : did % 256 ≡ 0x61 → sdid % 256 ≡ 0x01 → IsEightBit (word % 256) word

-- the identifiers of captions pass
pub is_caption-true : (did sdid : ℕ) → did % 256 ≡ 0x61 → sdid % 256 ≡ 0x01 → is_caption did sdid ≡ true
is_caption-true did sdid did_is sdid_is = rw (did_is, sdid_is) refl

-- one of two, where the other is false
left_of : (b c : Bool) → (b || not c) ≡ true → c ≡ true → b ≡ true
left_of true c either is = refl
left_of false true either is = either
left_of false false either is = is

-- a user word that passes
pub IsUserBehind-passed : (did sdid word : ℕ) → word < 1024 → (is_eight_bit word || not (is_caption did sdid)) ≡ true → IsUserBehind did sdid word
IsUserBehind-passed did sdid word below passes = record {
  ten_bits = below;
  caption = λ did_is sdid_is. IsEightBit-passed word (left_of (is_eight_bit word) (is_caption did sdid) passes (is_caption-true did sdid did_is sdid_is));
}

-- an 8-bit word, whatever it carries
abbrev pub IsByteWord : ℕ → Type 0
IsByteWord word = IsEightBit (word % 256) word

-- a packet's words up to its user words so far
pub record IsBody (first second third did sdid count : ℕ) (user : List ℕ) : Type 0 where
  pub first_is : first ≡ 0x000
  pub second_is : second ≡ 0x3FF
  pub third_is : third ≡ 0x3FF
  pub did_is : IsByteWord did
  pub sdid_is : IsByteWord sdid
  pub count_is : IsByteWord count
  pub user_are : All (IsUserBehind did sdid) user
  pub few : length user ≤ count % 256

-- the words begin a packet
abbrev pub IsBegun : List ℕ → Type 0
IsBegun [] = ⊤
IsBegun (first ∷ []) = first ≡ 0x000
IsBegun (first ∷ second ∷ []) = (first ≡ 0x000) × (second ≡ 0x3FF)
IsBegun (first ∷ second ∷ third ∷ []) = (first ≡ 0x000) × (second ≡ 0x3FF) × (third ≡ 0x3FF)
IsBegun (first ∷ second ∷ third ∷ did ∷ []) = (first ≡ 0x000) × (second ≡ 0x3FF) × (third ≡ 0x3FF) × IsByteWord did
IsBegun (first ∷ second ∷ third ∷ did ∷ sdid ∷ []) = (first ≡ 0x000) × (second ≡ 0x3FF) × (third ≡ 0x3FF) × IsByteWord did × IsByteWord sdid
IsBegun (first ∷ second ∷ third ∷ did ∷ sdid ∷ count ∷ user) = IsBody first second third did sdid count user

-- what these words say so far
abbrev pub packet_behind : ℕ → ℕ → List ℕ → AncillaryPacket
packet_behind did sdid user = record { did = did % 256; sdid = sdid % 256; user = user }

-- a body with as many user words as its count says, and its checksum word, is a packet
pub IsPacket-ended : (first second third did sdid count : ℕ) (user : List ℕ) (checksum : ℕ) → IsBody first second third did sdid count user
    → length user ≡ count % 256 → IsChecksum (did ∷ sdid ∷ count ∷ user) checksum
    → IsPacket (packet_behind did sdid user) (first ∷ second ∷ third ∷ did ∷ sdid ∷ count ∷ (user ++ checksum ∷ []))
IsPacket-ended first second third did sdid count user checksum body many is = record {
  did = did;
  sdid = sdid;
  count = count;
  checksum = checksum;
  spelled = rw (body.first_is, body.second_is, body.third_is) refl;
  has_did = body.did_is;
  has_sdid = body.sdid_is;
  has_count = subst (λ n. IsEightBit n count) (sym many) body.count_is;
  has_user = All-weaker (IsUserBehind did sdid) (IsUserWord (packet_behind did sdid user))
      (λ word has. record { ten_bits = has.ten_bits; caption = λ (one, two). has.caption one two }) user body.user_are;
  has_checksum = is;
}

-- after one more word a packet is begun, or it has ended
abbrev pub Goes : List ℕ → ℕ → Type 0
Goes front word = ((words_after front word ≡ front ++ word ∷ []) × IsBegun (front ++ word ∷ []))
    ⊎ ((words_after front word ≡ []) × ((p : AncillaryPacket) × IsPacket p (front ++ word ∷ [])))

-- a user word comes next, and passes
goes-user : (first second third did sdid count : ℕ) (user : List ℕ) (word : ℕ) → IsBody first second third did sdid count user → word < 1024
    → nat_lt (length user) (count % 256) ≡ true
    → (is_eight_bit word || not (is_caption did sdid)) ≡ true
    → Goes (first ∷ second ∷ third ∷ did ∷ sdid ∷ count ∷ user) word
goes-user first second third did sdid count user word body below more passes = inl (
  ap (λ (t : Bool). if t then first ∷ second ∷ third ∷ did ∷ sdid ∷ count ∷ (user ++ word ∷ []) else []) more,
  record {
    first_is = body.first_is;
    second_is = body.second_is;
    third_is = body.third_is;
    did_is = body.did_is;
    sdid_is = body.sdid_is;
    count_is = body.count_is;
    user_are = All-append (IsUserBehind did sdid) user (word ∷ []) body.user_are
        (All-cons (IsUserBehind did sdid) word [] (IsUserBehind-passed did sdid word below passes) (All-nil (IsUserBehind did sdid)));
    few = omega (arith, length-append user (word ∷ []), test-below (length user) (count % 256) more);
  },
)

-- the checksum word comes next, and is right
goes-checksum : (first second third did sdid count : ℕ) (user : List ℕ) (word : ℕ) → IsBody first second third did sdid count user
    → nat_lt (length user) (count % 256) ≡ false
    → (word == checksum_word (did ∷ sdid ∷ count ∷ user)) ≡ true
    → Goes (first ∷ second ∷ third ∷ did ∷ sdid ∷ count ∷ user) word
goes-checksum first second third did sdid count user word body full right =
    let few = body.few in
    let many : length user ≡ count % 256 = grind (arith, nat_tests) in
    let is = subst (IsChecksum (did ∷ sdid ∷ count ∷ user)) (sym (test-same word (checksum_word (did ∷ sdid ∷ count ∷ user)) right))
    (checksum_word-is (did ∷ sdid ∷ count ∷ user)) in
    inr (
      ap (λ (t : Bool). if t then first ∷ second ∷ third ∷ did ∷ sdid ∷ count ∷ (user ++ word ∷ []) else []) full,
      (packet_behind did sdid user, IsPacket-ended first second third did sdid count user word body many is),
    )

-- a word that is taken
goes : (front : List ℕ) (word : ℕ) → IsBegun front → IsTaken (judge_word front word) → Goes front word
goes [] word begun taken =
    let (below, judged) = IsTaken-if (nat_lt word 0x400) (judge_ten_bits [] word) why.HighBits taken in
    let (is, _) = IsTaken-if (word == 0x000) Nothing why.Flag judged in
    inl (refl, test-same word 0x000 is)
goes (first ∷ []) word begun taken =
    let (below, judged) = IsTaken-if (nat_lt word 0x400) (judge_ten_bits (first ∷ []) word) why.HighBits taken in
    let (is, _) = IsTaken-if (word == 0x3FF) Nothing why.Flag judged in
    inl (refl, (begun, test-same word 0x3FF is))
goes (first ∷ second ∷ []) word begun taken =
    let (below, judged) = IsTaken-if (nat_lt word 0x400) (judge_ten_bits (first ∷ second ∷ []) word) why.HighBits taken in
    let (is, _) = IsTaken-if (word == 0x3FF) Nothing why.Flag judged in
    inl (refl, (begun.0, begun.1, test-same word 0x3FF is))
goes (first ∷ second ∷ third ∷ []) word begun taken =
    let (below, judged) = IsTaken-if (nat_lt word 0x400) (judge_ten_bits (first ∷ second ∷ third ∷ []) word) why.HighBits taken in
    let (is, _) = IsTaken-if (is_eight_bit word) Nothing why.WordParity judged in
    inl (refl, (begun.0, begun.1, begun.2, IsEightBit-passed word is))
goes (first ∷ second ∷ third ∷ did ∷ []) word begun taken =
    let (below, judged) = IsTaken-if (nat_lt word 0x400) (judge_ten_bits (first ∷ second ∷ third ∷ did ∷ []) word) why.HighBits taken in
    let (is, _) = IsTaken-if (is_eight_bit word) Nothing why.WordParity judged in
    inl (refl, (begun.0, begun.1, begun.2, begun.3, IsEightBit-passed word is))
goes (first ∷ second ∷ third ∷ did ∷ sdid ∷ []) word begun taken =
    let (below, judged) = IsTaken-if (nat_lt word 0x400) (judge_ten_bits (first ∷ second ∷ third ∷ did ∷ sdid ∷ []) word) why.HighBits taken in
    let (is, _) = IsTaken-if (is_eight_bit word) (One (part.Start (did % 256) (sdid % 256) (word % 256))) why.WordParity judged in
    inl (
      refl,
      record {
        first_is = begun.0;
        second_is = begun.1;
        third_is = begun.2;
        did_is = begun.3;
        sdid_is = begun.4;
        count_is = IsEightBit-passed word is;
        user_are = All-nil (IsUserBehind did sdid);
        few = omega arith;
      },
    )
goes (first ∷ second ∷ third ∷ did ∷ sdid ∷ count ∷ user) word begun taken =
    let user_step : Step WordPart = if is_eight_bit word || not (is_caption did sdid) then One (part.User word) else Refuse why.WordParity in
    let end_step : Step WordPart = if word == checksum_word (did ∷ sdid ∷ count ∷ user) then One part.End else Refuse why.AncSum in
    let (below, judged) = IsTaken-if (nat_lt word 0x400) (judge_ten_bits (first ∷ second ∷ third ∷ did ∷ sdid ∷ count ∷ user) word) why.HighBits taken in
    let cases : (t : Bool) → nat_lt (length user) (count % 256) ≡ t → Goes (first ∷ second ∷ third ∷ did ∷ sdid ∷ count ∷ user) word = elim [
      | true ↦ λ more.
          let (passes, _) = IsTaken-if (is_eight_bit word || not (is_caption did sdid)) (One (part.User word)) why.WordParity
          (subst (λ (t : Bool). IsTaken (if t then user_step else end_step)) more judged) in
          goes-user first second third did sdid count user word begun (test-below word 0x400 below) more passes
      | false ↦ λ full.
          let (right, _) = IsTaken-if (word == checksum_word (did ∷ sdid ∷ count ∷ user)) (One part.End) why.AncSum
          (subst (λ (t : Bool). IsTaken (if t then user_step else end_step)) full judged) in
          goes-checksum first second third did sdid count user word begun full right
    ] in cases _ refl

-- words as packets, and the begin of one more
pub record Splits (words behind : List ℕ) : Type 0 where
  pub packets : List AncillaryPacket
  pub whole : List ℕ
  pub spelled : words ≡ whole ++ behind
  pub are : ArePackets packets whole
  pub begun : IsBegun behind

-- a packet, and what follows it
Splits-packet : (p : AncillaryPacket) (front words behind : List ℕ) → IsPacket p front → Splits words behind → Splits (front ++ words) behind
Splits-packet p front words behind is splits = record {
  packets = p ∷ splits.packets;
  whole = front ++ splits.whole;
  spelled = ap (λ ws. front ++ ws) splits.spelled ∙ sym (append_assoc front splits.whole behind);
  are = (front, splits.whole, refl, is, splits.are);
  begun = splits.begun;
}

-- words that are taken
sound-from : (front words : List ℕ) → IsBegun front → AllTaken word_syntax front words → Splits (front ++ words) (front_from words_after front words)
sound-from front [] begun taken = record {
  packets = [];
  whole = [];
  spelled = append-nil front;
  are = refl;
  begun = begun;
}
sound-from front (word ∷ words) begun (is, taken) =
    let behind = front_from words_after (words_after front word) words in
    elim (goes front word begun is) [
      | inl (after, next) ↦
          let more = sound-from (front ++ word ∷ []) words next (subst (λ f. AllTaken word_syntax f words) after taken) in
          subst (λ ws. Splits ws behind) (append_assoc front (word ∷ []) words)
          (subst (λ f. Splits ((front ++ word ∷ []) ++ words) (front_from words_after f words)) (sym after) more)
      | inr (after, (p, packet)) ↦
          let more = sound-from [] words tt (subst (λ f. AllTaken word_syntax f words) after taken) in
          subst (λ ws. Splits ws behind) (append_assoc front (word ∷ []) words)
          (Splits-packet p (front ++ word ∷ []) words behind packet
          (subst (λ f. Splits words (front_from words_after f words)) (sym after) more))
    ]

pub sound : (words : List ℕ) → AllTaken word_syntax [] words → Splits words (front_from words_after [] words)
sound words taken = sound-from [] words tt taken
