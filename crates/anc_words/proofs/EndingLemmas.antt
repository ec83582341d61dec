-- A packet ends no sooner than its count says: fewer bytes leave something open.
use Rattle.std.proofs.Common.{◌≡◌, ◌≢◌, ℕ, ◌+◌, ◌-◌, ◌*◌, ◌%◌, ◌<◌, ◌≤◌, nat_lt, if◌then◌else◌, Bool, true, false, List, [], ◌∷◌, ◌++◌, length, Option, Some, None, refl, ap, sym, ◌∙◌, length-append, arith}
use Rattle.std.proofs.lemmas.Bool.Decides.{nat_tests}
use Rattle.cc_base.specs.Steps.{front_from}
use Rattle.cc_base.specs.Syntax.{open_behind}
use Rattle.cc_base.proofs.StepLemmas.{front_from-append}
use Rattle.anc_words.specs.Packets.{AncillaryPacket}
use Rattle.anc_words.specs.WordsFiles.{IsWordsFile}
use Rattle.anc_words.specs.Ending.{bytes_to_end, words_to_end}
use Rattle.anc_words.specs.Reading.{anc_syntax, Open, nothing_open, open_after, words_after}
use Rattle.anc_words.proofs.ByteLemmas.{file_is_read}

-- after the count
body_falls : (test : Bool) (first second third did sdid count word : ℕ) (user : List ℕ) → nat_lt (length user) (count % 256) ≡ test
    → count % 256 - length user + 1 ≤ words_to_end (if test then first ∷ second ∷ third ∷ did ∷ sdid ∷ count ∷ (user ++ word ∷ []) else []) + 1
body_falls true first second third did sdid count word user is = let long = length-append user (word ∷ []) in omega (arith, long)
body_falls false first second third did sdid count word user is =
    let most : count % 256 ≤ length user = grind (arith, nat_tests) in omega (arith, most)

-- one more word takes one at most
words_fall : (words : List ℕ) (word : ℕ) → words_to_end words ≤ words_to_end (words_after words word) + 1
words_fall [] word = omega arith
words_fall (first ∷ []) word = omega arith
words_fall (first ∷ second ∷ []) word = omega arith
words_fall (first ∷ second ∷ third ∷ []) word = omega arith
words_fall (first ∷ second ∷ third ∷ did ∷ []) word = omega arith
words_fall (first ∷ second ∷ third ∷ did ∷ sdid ∷ []) word = omega arith
words_fall (first ∷ second ∷ third ∷ did ∷ sdid ∷ count ∷ user) word = body_falls _ first second third did sdid count word user refl

-- and one more byte one at most
bytes_fall : (high : Option ℕ) (words : List ℕ) (byte : ℕ)
    → bytes_to_end (record { high = high; words = words }) ≤ bytes_to_end (open_after (record { high = high; words = words }) byte) + 1
bytes_fall None words byte = omega arith
bytes_fall (Some high) words byte = let fall = words_fall words (256 * high + byte) in omega (arith, fall)

-- a packet that isn't at its last word stays open
body_stays : (test : Bool) (first second third did sdid count word : ℕ) (user : List ℕ) → nat_lt (length user) (count % 256) ≡ test
    → 2 ≤ count % 256 - length user + 1 → (if test then first ∷ second ∷ third ∷ did ∷ sdid ∷ count ∷ (user ++ word ∷ []) else []) ≢ []
body_stays true first second third did sdid count word user is far = λ none. cc
body_stays false first second third did sdid count word user is far = λ none.
    let most : count % 256 ≤ length user = grind (arith, nat_tests) in absurd (omega (arith, most, far))

words_stay : (words : List ℕ) (word : ℕ) → 2 ≤ words_to_end words → words_after words word ≢ []
words_stay [] word far = λ none. cc
words_stay (first ∷ []) word far = λ none. cc
words_stay (first ∷ second ∷ []) word far = λ none. cc
words_stay (first ∷ second ∷ third ∷ []) word far = λ none. cc
words_stay (first ∷ second ∷ third ∷ did ∷ []) word far = λ none. cc
words_stay (first ∷ second ∷ third ∷ did ∷ sdid ∷ []) word far = λ none. cc
words_stay (first ∷ second ∷ third ∷ did ∷ sdid ∷ count ∷ user) word far = body_stays _ first second third did sdid count word user refl far

bytes_stay : (high : Option ℕ) (words : List ℕ) (byte : ℕ) → 2 ≤ bytes_to_end (record { high = high; words = words })
    → open_after (record { high = high; words = words }) byte ≢ nothing_open
bytes_stay None words byte far = λ none. let clash = ap (λ (o : Open). o.high) none in cc
bytes_stay (Some high) words byte far = λ none.
    words_stay words (256 * high + byte) (omega (arith, far)) (ap (λ (o : Open). o.words) none)

-- fewer bytes than come at least leave something open
stays_open : (front : Open) (more : List ℕ) → 0 < length more → length more < bytes_to_end front → front_from open_after front more ≢ nothing_open
stays_open front [] some few = absurd (omega (arith, some))
stays_open front (byte ∷ []) some few = bytes_stay front.high front.words byte (omega (arith, few))
stays_open front (byte ∷ next ∷ rest) some few =
    let fall = bytes_fall front.high front.words byte in
    stays_open (open_after front byte) (next ∷ rest) (omega arith) (omega (arith, few, fall))

-- so they end no packet
pub ends_no_sooner : (bytes more : List ℕ) (packets : List AncillaryPacket) → 0 < length more → length more < bytes_to_end (open_behind anc_syntax bytes)
    → IsWordsFile packets (bytes ++ more) → ⊥
ends_no_sooner bytes more packets some few is =
    let closed = (file_is_read packets (bytes ++ more) is).leads in
    stays_open (open_behind anc_syntax bytes) more some few (sym (front_from-append open_after nothing_open bytes more) ∙ closed)
