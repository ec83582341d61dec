-- An open packet has fewer than 524 bytes: six words before the user words, of which there are at most 255, and the checksum word.
use Rattle.std.proofs.Common.{◌≡◌, ℕ, suc, ◌+◌, ◌*◌, ◌%◌, ◌<◌, ◌≤◌, ◌⊎◌, inl, inr, nat_lt, if◌then◌else◌, Bool, true, false, List, [], ◌∷◌, ◌++◌, length, take, Option, Some, None, refl, ap, length-append, arith}
use Rattle.std.proofs.lemmas.Bool.Decides.{nat_tests}
use Rattle.cc_base.specs.Steps.{front_from}
use Rattle.anc_words.specs.Ending.{half_of_word}
use Rattle.anc_words.specs.Reading.{Open, nothing_open, open_after, words_after}

-- no more user words than the count says
abbrev IsWithinCount : List ℕ → Type 0
IsWithinCount (first ∷ second ∷ third ∷ did ∷ sdid ∷ count ∷ user) = length user ≤ count % 256
IsWithinCount _ = Unit {0}

-- after the count
body_within : (test : Bool) (first second third did sdid count word : ℕ) (user : List ℕ) → nat_lt (length user) (count % 256) ≡ test
    → IsWithinCount (if test then first ∷ second ∷ third ∷ did ∷ sdid ∷ count ∷ (user ++ word ∷ []) else [])
body_within true first second third did sdid count word user is =
    let long = length-append user (word ∷ []) in
    let few : length user < count % 256 = grind (arith, nat_tests) in
    omega (arith, long, few)
body_within false first second third did sdid count word user is = tt

words_within : (words : List ℕ) (word : ℕ) → IsWithinCount words → IsWithinCount (words_after words word)
words_within [] word is = tt
words_within (first ∷ []) word is = tt
words_within (first ∷ second ∷ []) word is = tt
words_within (first ∷ second ∷ third ∷ []) word is = tt
words_within (first ∷ second ∷ third ∷ did ∷ []) word is = tt
words_within (first ∷ second ∷ third ∷ did ∷ sdid ∷ []) word is = omega arith
words_within (first ∷ second ∷ third ∷ did ∷ sdid ∷ count ∷ user) word is = body_within _ first second third did sdid count word user refl

-- a word ends the packet, or there is one word more
body_more : (test : Bool) (first second third did sdid count word : ℕ) (user : List ℕ)
    → let after : List ℕ = if test then first ∷ second ∷ third ∷ did ∷ sdid ∷ count ∷ (user ++ word ∷ []) else [] in
    (after ≡ []) ⊎ (length after ≡ length (first ∷ second ∷ third ∷ did ∷ sdid ∷ count ∷ user) + 1)
body_more true first second third did sdid count word user = inr (omega (arith, length-append user (word ∷ [])))
body_more false first second third did sdid count word user = inl refl

words_more : (words : List ℕ) (word : ℕ) → (words_after words word ≡ []) ⊎ (length (words_after words word) ≡ length words + 1)
words_more [] word = inr refl
words_more (first ∷ []) word = inr refl
words_more (first ∷ second ∷ []) word = inr refl
words_more (first ∷ second ∷ third ∷ []) word = inr refl
words_more (first ∷ second ∷ third ∷ did ∷ []) word = inr refl
words_more (first ∷ second ∷ third ∷ did ∷ sdid ∷ []) word = inr refl
words_more (first ∷ second ∷ third ∷ did ∷ sdid ∷ count ∷ user) word = body_more (nat_lt (length user) (count % 256)) first second third did sdid count word user

-- at most 261 words are open
few_words : (words : List ℕ) → IsWithinCount words → length words ≤ 261
few_words [] is = omega arith
few_words (first ∷ []) is = omega arith
few_words (first ∷ second ∷ []) is = omega arith
few_words (first ∷ second ∷ third ∷ []) is = omega arith
few_words (first ∷ second ∷ third ∷ did ∷ []) is = omega arith
few_words (first ∷ second ∷ third ∷ did ∷ sdid ∷ []) is = omega arith
few_words (first ∷ second ∷ third ∷ did ∷ sdid ∷ count ∷ user) is = omega (arith, is)

-- the bytes that are open
abbrev size_of : Open → ℕ
size_of front = 2 * length front.words + half_of_word front.high

-- a byte ends the packet, or there is one byte more
byte_more : (high : Option ℕ) (words : List ℕ) (byte : ℕ)
    → let front : Open = record { high = high; words = words } in
    (open_after front byte ≡ nothing_open) ⊎ (size_of (open_after front byte) ≡ size_of front + 1)
byte_more None words byte = inr (omega arith)
byte_more (Some high) words byte = elim (words_more words (256 * high + byte)) [
  | inl ended ↦ inl (ap (λ ws. let o : Open = record { high = None; words = ws } in o) ended)
  | inr more ↦ inr (omega (arith, more))
]

byte_within : (high : Option ℕ) (words : List ℕ) (byte : ℕ) → IsWithinCount words → IsWithinCount (open_after (record { high = high; words = words }) byte).words
byte_within None words byte is = is
byte_within (Some high) words byte is = words_within words (256 * high + byte) is

byte_room : (high : Option ℕ) (words : List ℕ) → IsWithinCount words → size_of (record { high = high; words = words }) ≤ 523
byte_room None words is = let few = few_words words is in omega (arith, few)
byte_room (Some high) words is = let few = few_words words is in omega (arith, few)

-- bytes of which none ends the packet but the last
room_from : (front : Open) (more : List ℕ) → IsWithinCount front.words
    → ((n : ℕ) → 0 < n → n < length more → front_from open_after front (take n more) ≡ nothing_open → ⊥)
    → size_of front + length more ≤ 524
room_from front [] is none = let room = byte_room front.high front.words is in omega (arith, room)
room_from front (byte ∷ []) is none = let room = byte_room front.high front.words is in omega (arith, room)
room_from front (byte ∷ next ∷ rest) is none = elim (byte_more front.high front.words byte) [
  | inl ended ↦ absurd (none 1 (omega arith) (omega arith) ended)
  | inr more ↦
      let further = room_from (open_after front byte) (next ∷ rest) (byte_within front.high front.words byte is)
      (λ n some few ended. none (suc n) (omega arith) (omega (arith, few)) ended) in
      omega (arith, more, further)
]

pub packet_room : (more : List ℕ) → ((n : ℕ) → 0 < n → n < length more → front_from open_after nothing_open (take n more) ≡ nothing_open → ⊥)
    → length more ≤ 524
packet_room more none = let room = room_from nothing_open more tt none in omega (arith, room)
