-- A word is refused for what it is at its place.
use Rattle.std.proofs.Common.{◌≡◌, ◌≢◌, ℕ, ◌%◌, ◌<◌, ◌≤◌, ◌==◌, ◌||◌, not, nat_lt, if◌then◌else◌, Bool, true, false, List, [], ◌∷◌, length, refl, ap, sym, subst, ◌∙◌, arith, eq-eqb}
use Rattle.std.proofs.lemmas.Bool.Decides.{nat_tests}
use Rattle.cc_base.specs.declared.step.Step.{Step}
use Rattle.cc_base.specs.declared.step.Step.TheVariants.{Nothing, One, Refuse}
use Rattle.cc_base.specs.declared.why.Why.{Why}
use Rattle.cc_base.specs.declared.why.Why.TheVariants as why
use Rattle.cc_base.specs.Steps.{IsTaken}
use Rattle.anc_words.specs.declared.parts.WordPart.{WordPart}
use Rattle.anc_words.specs.declared.parts.WordPart.TheVariants as part
use Rattle.anc_words.specs.Checksums.{IsChecksum}
use Rattle.anc_words.specs.EightBitWords.{IsEightBit}
use Rattle.anc_words.specs.Reading.{is_caption, is_eight_bit, judge_ten_bits, judge_word}
use Rattle.anc_words.specs.Refusals.{ChecksumIsNext, EightBitIsNext, FlagIsNext, WordOffends}
use Rattle.anc_words.specs.Writing.{checksum_word}
use Rattle.anc_words.proofs.ChecksumLemmas.{IsChecksum-word, checksum_word-is}
use Rattle.anc_words.proofs.ReadLemmas.{is_caption-is, is_eight_bit-true, judge_word-below}
use Rattle.anc_words.proofs.SoundLemmas.{IsEightBit-passed, is_caption-true, test-below}

-- what a test says of numbers
not_below : (word n : ℕ) → nat_lt word n ≡ false → n ≤ word
not_below word n is = grind (arith, nat_tests)

below-no : (word n : ℕ) → n ≤ word → nat_lt word n ≡ false
below-no word n is = grind (arith, nat_tests)

pub below-yes : (word n : ℕ) → word < n → nat_lt word n ≡ true
below-yes word n is = grind (arith, nat_tests)

other : (a b : ℕ) → (a == b) ≡ false → a ≢ b
other a b is = λ e. let clash : true ≡ false = sym (eq-eqb a b e) ∙ is in absurd cc

other-no : (a b : ℕ) → a ≢ b → (a == b) ≡ false
other-no a b is =
    let cases : (t : Bool) → (a == b) ≡ t → (a == b) ≡ false = elim [
      | true ↦ λ same. absurd (is (grind (arith, nat_tests)))
      | false ↦ λ differs. differs
    ] in cases _ refl

-- a test that is false, of something that then isn't so
isnt : (P : Type 0) (test : Bool) → (P → test ≡ true) → test ≡ false → P → ⊥
isnt P test holds fails is = let clash : true ≡ false = sym (holds is) ∙ fails in absurd cc

no-test : (P : Type 0) (test : Bool) → (test ≡ true → P) → (P → ⊥) → test ≡ false
no-test P true holds none = absurd (none (holds refl))
no-test P false holds none = refl

-- a step that is refused
record Fails (test : Bool) (fails reason : Why) : Type 0 where
  pub test_is : test ≡ false
  pub same : fails ≡ reason

fails-if : (test : Bool) (step : Step WordPart) (fails reason : Why) → IsTaken step → (if test then step else Refuse fails) ≡ Refuse reason → Fails test fails reason
fails-if true step fails reason taken is = absurd (subst IsTaken is taken)
fails-if false step fails reason taken is = record { test_is = refl; same = cc }

-- a word of the flag, and an 8-bit word
flag_fails : (words : List ℕ) (word flag : ℕ) (reason : Why) → word < 0x400 → FlagIsNext words flag
    → (let s : Step WordPart = if word == flag then Nothing else Refuse why.Flag in s) ≡ Refuse reason → WordOffends words word reason
flag_fails words word flag reason below next is =
    let fails = fails-if (word == flag) Nothing why.Flag reason tt is in
    subst (WordOffends words word) fails.same (below, flag, next, other word flag fails.test_is)

eight_bit_fails : (words : List ℕ) (word : ℕ) (step : Step WordPart) (reason : Why) → word < 0x400 → EightBitIsNext words → IsTaken step
    → (if is_eight_bit word then step else Refuse why.WordParity) ≡ Refuse reason → WordOffends words word reason
eight_bit_fails words word step reason below next taken is =
    let fails = fails-if (is_eight_bit word) step why.WordParity reason taken is in
    subst (WordOffends words word) fails.same
    (below, next, isnt (IsEightBit (word % 256) word) (is_eight_bit word) (is_eight_bit-true word) fails.test_is)

-- neither of two
or_false : (b c : Bool) → (b || not c) ≡ false → (b ≡ false) × (c ≡ true)
or_false true c fails = absurd cc
or_false false true fails = (refl, refl)
or_false false false fails = absurd cc

ten_bits_fail : (words : List ℕ) (word : ℕ) (reason : Why) → word < 0x400 → judge_ten_bits words word ≡ Refuse reason → WordOffends words word reason
ten_bits_fail [] word reason below is = flag_fails [] word 0x000 reason below refl is
ten_bits_fail (a ∷ []) word reason below is = flag_fails (a ∷ []) word 0x3FF reason below refl is
ten_bits_fail (a ∷ b ∷ []) word reason below is = flag_fails (a ∷ b ∷ []) word 0x3FF reason below refl is
ten_bits_fail (a ∷ b ∷ c ∷ []) word reason below is = eight_bit_fails (a ∷ b ∷ c ∷ []) word Nothing reason below tt tt is
ten_bits_fail (a ∷ b ∷ c ∷ did ∷ []) word reason below is = eight_bit_fails (a ∷ b ∷ c ∷ did ∷ []) word Nothing reason below tt tt is
ten_bits_fail (a ∷ b ∷ c ∷ did ∷ sdid ∷ []) word reason below is =
    eight_bit_fails (a ∷ b ∷ c ∷ did ∷ sdid ∷ []) word (One (part.Start (did % 256) (sdid % 256) (word % 256))) reason below tt tt is
ten_bits_fail (a ∷ b ∷ c ∷ did ∷ sdid ∷ count ∷ user) word reason below is =
    let words = a ∷ b ∷ c ∷ did ∷ sdid ∷ count ∷ user in
    let summed = did ∷ sdid ∷ count ∷ user in
    let free = is_eight_bit word || not (is_caption did sdid) in
    let in_user : Step WordPart = if free then One (part.User word) else Refuse why.WordParity in
    let at_end : Step WordPart = if word == checksum_word summed then One part.End else Refuse why.AncSum in
    let cases : (t : Bool) → nat_lt (length user) (count % 256) ≡ t → (if t then in_user else at_end) ≡ Refuse reason → WordOffends words word reason = elim [
      | true ↦ λ more refused.
          let fails = fails-if free (One (part.User word)) why.WordParity reason tt refused in
          let (parity, captions) = or_false (is_eight_bit word) (is_caption did sdid) fails.test_is in
          let (did_is, sdid_is) = is_caption-is did sdid captions in
          subst (WordOffends words word) fails.same (
            below,
            (test-below (length user) (count % 256) more, did_is, sdid_is),
            isnt (IsEightBit (word % 256) word) (is_eight_bit word) (is_eight_bit-true word) parity,
          )
      | false ↦ λ full refused.
          let fails = fails-if (word == checksum_word summed) (One part.End) why.AncSum reason tt refused in
          subst (WordOffends words word) fails.same (
            below,
            summed,
            (not_below (length user) (count % 256) full, refl),
            isnt (IsChecksum summed word) (word == checksum_word summed) (λ sum. eq-eqb word (checksum_word summed) (IsChecksum-word summed word sum)) fails.test_is,
          )
    ] in cases _ refl is

-- a word that is refused offends for that reason
pub refused-offends : (words : List ℕ) (word : ℕ) (reason : Why) → judge_word words word ≡ Refuse reason → WordOffends words word reason
refused-offends words word reason is =
    let cases : (t : Bool) → nat_lt word 0x400 ≡ t → (if t then judge_ten_bits words word else Refuse why.HighBits) ≡ Refuse reason → WordOffends words word reason = elim [
      | true ↦ λ below refused. ten_bits_fail words word reason (test-below word 0x400 below) refused
      | false ↦ λ high refused. let same : why.HighBits ≡ reason = cc in subst (WordOffends words word) same (not_below word 0x400 high)
    ] in cases _ refl is

-- and the other way round: a word of the flag
flag_offends : (words : List ℕ) (word flag : ℕ) → FlagIsNext words flag → word ≢ flag → judge_ten_bits words word ≡ Refuse why.Flag
flag_offends [] word flag next is = ap (λ (t : Bool). let s : Step WordPart = if t then Nothing else Refuse why.Flag in s) (other-no word 0x000 (λ e. is (e ∙ sym next)))
flag_offends (a ∷ []) word flag next is = ap (λ (t : Bool). let s : Step WordPart = if t then Nothing else Refuse why.Flag in s) (other-no word 0x3FF (λ e. is (e ∙ sym next)))
flag_offends (a ∷ b ∷ []) word flag next is = ap (λ (t : Bool). let s : Step WordPart = if t then Nothing else Refuse why.Flag in s) (other-no word 0x3FF (λ e. is (e ∙ sym next)))
flag_offends (a ∷ b ∷ c ∷ words) word flag next is = absurd next

-- an 8-bit word
parity-no : (word : ℕ) → (IsEightBit (word % 256) word → ⊥) → is_eight_bit word ≡ false
parity-no word is = no-test (IsEightBit (word % 256) word) (is_eight_bit word) (IsEightBit-passed word) is

eight_bit_offends : (words : List ℕ) (word : ℕ) → EightBitIsNext words → (IsEightBit (word % 256) word → ⊥) → judge_ten_bits words word ≡ Refuse why.WordParity
eight_bit_offends [] word next is = absurd next
eight_bit_offends (a ∷ []) word next is = absurd next
eight_bit_offends (a ∷ b ∷ []) word next is = absurd next
eight_bit_offends (a ∷ b ∷ c ∷ []) word next is = ap (λ (t : Bool). let s : Step WordPart = if t then Nothing else Refuse why.WordParity in s) (parity-no word is)
eight_bit_offends (a ∷ b ∷ c ∷ did ∷ []) word next is = ap (λ (t : Bool). let s : Step WordPart = if t then Nothing else Refuse why.WordParity in s) (parity-no word is)
eight_bit_offends (a ∷ b ∷ c ∷ did ∷ sdid ∷ []) word next is =
    ap (λ (t : Bool). let s : Step WordPart = if t then One (part.Start (did % 256) (sdid % 256) (word % 256)) else Refuse why.WordParity in s) (parity-no word is)
eight_bit_offends (a ∷ b ∷ c ∷ did ∷ sdid ∷ count ∷ user) word (more, did_is, sdid_is) is =
    let free : (is_eight_bit word || not (is_caption did sdid)) ≡ false = ap (λ (b : Bool). b || not (is_caption did sdid)) (parity-no word is) ∙ ap (λ (c : Bool). not c) (is_caption-true did sdid did_is sdid_is) in
    let at_end : Step WordPart = if word == checksum_word (did ∷ sdid ∷ count ∷ user) then One part.End else Refuse why.AncSum in
    ap (λ (t : Bool). let s : Step WordPart = if t then (if is_eight_bit word || not (is_caption did sdid) then One (part.User word) else Refuse why.WordParity) else at_end in s) (below-yes (length user) (count % 256) more)
    ∙ ap (λ (t : Bool). let s : Step WordPart = if t then One (part.User word) else Refuse why.WordParity in s) free

-- the checksum word
checksum_offends : (words : List ℕ) (word : ℕ) (summed : List ℕ) → ChecksumIsNext words summed → (IsChecksum summed word → ⊥) → judge_ten_bits words word ≡ Refuse why.AncSum
checksum_offends [] word summed next is = absurd next
checksum_offends (a ∷ []) word summed next is = absurd next
checksum_offends (a ∷ b ∷ []) word summed next is = absurd next
checksum_offends (a ∷ b ∷ c ∷ []) word summed next is = absurd next
checksum_offends (a ∷ b ∷ c ∷ did ∷ []) word summed next is = absurd next
checksum_offends (a ∷ b ∷ c ∷ did ∷ sdid ∷ []) word summed next is = absurd next
checksum_offends (a ∷ b ∷ c ∷ did ∷ sdid ∷ count ∷ user) word summed (full, same) is =
    let in_user : Step WordPart = if is_eight_bit word || not (is_caption did sdid) then One (part.User word) else Refuse why.WordParity in
    let right : (word == checksum_word (did ∷ sdid ∷ count ∷ user)) ≡ false =
    other-no word (checksum_word (did ∷ sdid ∷ count ∷ user)) (λ e. is (subst (λ ws. IsChecksum ws word) (sym same) (subst (IsChecksum (did ∷ sdid ∷ count ∷ user)) (sym e) (checksum_word-is (did ∷ sdid ∷ count ∷ user))))) in
    ap (λ (t : Bool). let s : Step WordPart = if t then in_user else (if word == checksum_word (did ∷ sdid ∷ count ∷ user) then One part.End else Refuse why.AncSum) in s) (below-no (length user) (count % 256) full)
    ∙ ap (λ (t : Bool). let s : Step WordPart = if t then One part.End else Refuse why.AncSum in s) right

-- a word that offends is refused for that reason
pub offends-refused : (words : List ℕ) (word : ℕ) (reason : Why) → WordOffends words word reason → judge_word words word ≡ Refuse reason
offends-refused words word why.HighBits high = ap (λ (t : Bool). if t then judge_ten_bits words word else Refuse why.HighBits) (below-no word 0x400 high)
offends-refused words word why.Flag (below, flag, next, is) = judge_word-below words word below ∙ flag_offends words word flag next is
offends-refused words word why.WordParity (below, next, is) = judge_word-below words word below ∙ eight_bit_offends words word next is
offends-refused words word why.AncSum (below, summed, next, is) = judge_word-below words word below ∙ checksum_offends words word summed next is
offends-refused words word _ offends = absurd offends
