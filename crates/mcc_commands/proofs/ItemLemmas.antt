-- The words of the bytes of an item, as they are written.
use Rattle.std.proofs.Common.{◌≡◌, ℕ, zero, suc, ◌+◌, ◌-◌, ◌*◌, ◌<◌, ◌≤◌, Bool, true, false, nat_lt, List, [], ◌∷◌, ◌++◌, get_or, length, length-append, take, drop, Ok, refl, ap, sym, ◌∙◌, subst, arith}
use Rattle.std.proofs.Math.Seq.{take-append_seam, drop-append_seam}
use Rattle.std.proofs.lemmas.Bool.Decides.{nat_tests}
use Rattle.std.proofs.lemmas.List.{length-take-le, take-append-drop}
use Rattle.anc_words.specs.Writing.{packet_bytes}
use Rattle.mcc_files.specs.Payloads.{Payload, bytes_with, checksum_byte, payload_bytes}
use Rattle.mcc_files.specs.PayloadWords.{payload_words}
use Rattle.mcc_files.specs.PayloadReading.{is_whole, joined}
use Rattle.mcc_files.proofs.SoundLemmas.{packet_so}
use Rattle.mcc_commands.specs.Words.{eight_words, flag_words, open_words}
use Rattle.mcc_commands.proofs.ImportWordsLemmas.{before_last, eight_both, eight_long, head_of, last_word, open_not_yet, whole_words, words_front, words_long}

-- the test of a whole packet
pub whole_test : (bytes : List ℕ) → 3 < length bytes → (rest : ℕ) → rest ≡ length bytes - 3 → nat_lt (get_or bytes 2 0) rest ≡ is_whole bytes
whole_test [] some rest is = absurd (omega (arith, some))
whole_test (a ∷ []) some rest is = absurd (omega (arith, some))
whole_test (a ∷ b ∷ []) some rest is = absurd (omega (arith, some))
whole_test (a ∷ b ∷ c ∷ more) some rest is = let same : rest ≡ length more = omega (arith, is) in ap (λ (n : ℕ). nat_lt c n) same

none_below : (c : ℕ) → nat_lt c 0 ≡ false
none_below c = by_test (nat_lt c 0) refl
  where
    by_test : (test : Bool) → nat_lt c 0 ≡ test → nat_lt c 0 ≡ false
    by_test true is = absurd (grind (arith, nat_tests))
    by_test false is = is

pub short_test : (bytes : List ℕ) → length bytes ≤ 3 → is_whole bytes ≡ false
short_test [] few = refl
short_test (a ∷ []) few = refl
short_test (a ∷ b ∷ []) few = refl
short_test (a ∷ b ∷ c ∷ []) few = none_below c
short_test (a ∷ b ∷ c ∷ d ∷ more) few = absurd (omega (arith, few))

-- what a whole packet says
pub said_user : (bytes : List ℕ) (p : Payload) (last : ℕ) → bytes ≡ payload_bytes p → last ≡ length bytes - 1 → take (last - 3) (drop 3 bytes) ≡ p.user
said_user bytes p last are is =
    let long = ap length are in
    let own = length-append p.user (checksum_byte p ∷ []) in
    let count : last - 3 ≡ length p.user = omega (arith, long, own, is) in
    ap (λ (b : List ℕ). take (last - 3) (drop 3 b)) are ∙ (ap (λ (n : ℕ). take n (p.user ++ checksum_byte p ∷ [])) count ∙ take-append_seam p.user (checksum_byte p ∷ []))

-- a whole packet's bytes
pub record WholeBytes (bytes : List ℕ) : Type 0 where
  pub payload : Payload
  pub are : bytes ≡ payload_bytes payload

pub whole_bytes : (bytes : List ℕ) → joined true [] bytes ≡ Ok bytes → is_whole bytes ≡ true → WholeBytes bytes
whole_bytes bytes join whole =
    let p = packet_so true bytes bytes join whole in
    record { payload = p.payload; are = p.are ∙ ap (λ (c : ℕ). bytes_with p.payload c) (p.right refl) }

pub whole_long : (bytes : List ℕ) (p : Payload) → bytes ≡ payload_bytes p → 4 ≤ length bytes
whole_long bytes p are = omega (arith, ap length are, length-append p.user (checksum_byte p ∷ []))

pub whole_few : (bytes : List ℕ) (p : Payload) → bytes ≡ payload_bytes p → length bytes ≤ 259 → length p.user ≤ 255
whole_few bytes p are few = omega (arith, ap length are, length-append p.user (checksum_byte p ∷ []), few)

-- the last words after a front's words
front_drops : (p : Payload) (front more : List ℕ) → head_of p ≡ front ++ more → drop (6 + 2 * length front) (payload_words p) ≡ eight_words more ++ last_word p
front_drops p front more spelled =
    let each = eight_long front in
    let all = flag_words ++ eight_words front in
    let size : 6 + 2 * length front ≡ length all = omega (arith, each) in
    ap (λ (n : ℕ). drop n (payload_words p)) size ∙ (ap (λ w. drop (length all) w) (words_front p front more spelled) ∙ drop-append_seam all (eight_words more ++ last_word p))

pub last_words : (before bytes : List ℕ) (p : Payload) (behind : List ℕ) (from : ℕ) → bytes ≡ payload_bytes p → bytes ≡ before ++ behind → is_whole before ≡ false
    → ((before ≡ [] → from ≡ 0)) → (0 < length before → from ≡ 6 + 2 * length before) → open_words before ++ drop from (payload_words p) ≡ open_words bytes
last_words [] bytes p behind from are spelled not_yet none some =
    ap (λ (n : ℕ). drop n (payload_words p)) (none refl) ∙ (sym (whole_words p) ∙ ap open_words (sym are))
last_words (b ∷ before) bytes p behind from are spelled not_yet none some =
    let (rest, head) = before_last p (b ∷ before) behind (sym are ∙ spelled) not_yet in
    let front = flag_words ++ eight_words (b ∷ before) in
    let first = open_not_yet b before not_yet in
    let size : from ≡ 6 + 2 * length (b ∷ before) = some (omega arith) in
    ap (λ w. w ++ drop from (payload_words p)) first
    ∙ (ap (λ (n : ℕ). front ++ drop n (payload_words p)) size
    ∙ (ap (λ w. front ++ w) (front_drops p (b ∷ before) rest head) ∙ (sym (words_front p (b ∷ before) rest head) ∙ (sym (whole_words p) ∙ ap open_words (sym are)))))

-- the words of bytes that aren't whole after a front's words
pub more_words : (before more : List ℕ) → is_whole before ≡ false → is_whole (before ++ more) ≡ false → 0 < length before
    → open_words before ++ eight_words more ≡ open_words (before ++ more)
more_words [] more not_yet still some = absurd (omega (arith, some))
more_words (b ∷ before) more not_yet still some =
    ap (λ w. w ++ eight_words more) (open_not_yet b before not_yet)
    ∙ (ap (λ w. flag_words ++ w) (sym (eight_both (b ∷ before) more)) ∙ sym (open_not_yet b (before ++ more) still))

pub first_words : (bytes : List ℕ) → is_whole bytes ≡ false → 0 < length bytes → flag_words ++ eight_words bytes ≡ open_words bytes
first_words [] not_yet some = absurd (omega (arith, some))
first_words (b ∷ bytes) not_yet some = sym (open_not_yet b bytes not_yet)

-- a packet's words are the words of what it says
pub packet_said : (p : Payload) (did sdid : ℕ) (user out : List ℕ) → did ≡ p.did → sdid ≡ p.sdid → user ≡ p.user → out ≡ packet_bytes did sdid user → out ≡ payload_words p
packet_said p did sdid user out did_is sdid_is user_is out_is =
    out_is ∙ (ap (λ (d : ℕ). packet_bytes d sdid user) did_is ∙ (ap (λ (s : ℕ). packet_bytes p.did s user) sdid_is ∙ ap (λ (u : List ℕ). packet_bytes p.did p.sdid u) user_is))

-- after this many bytes of a packet stand its last words
pub last_fits : (bytes : List ℕ) (p : Payload) (from size : ℕ) → bytes ≡ payload_bytes p → from ≤ length bytes → is_whole (take from bytes) ≡ false
    → (from ≡ 0 → size ≡ 0) → (0 < from → size ≡ 6 + 2 * from) → size ≤ length (payload_words p)
last_fits bytes p from size are within not_yet none some =
    let (rest, head) = before_last p (take from bytes) (drop from bytes) (sym are ∙ sym (take-append-drop from bytes)) not_yet in
    let front = length-take-le from bytes within in
    let long = ap length head ∙ length-append (take from bytes) rest in
    let words = words_long p in
    by_from from size none some (omega (arith, front, long, words)) (omega (arith, words))
  where
    by_from : (from size : ℕ) → (from ≡ 0 → size ≡ 0) → (0 < from → size ≡ 6 + 2 * from) → 6 + 2 * from ≤ length (payload_words p) → 14 ≤ length (payload_words p)
        → size ≤ length (payload_words p)
    by_from zero size none some most least = let is = none refl in omega (arith, is, least)
    by_from (suc from) size none some most least = let is = some (omega arith) in omega (arith, is, most)

pub last_put : (bytes : List ℕ) (p : Payload) (from size : ℕ) → bytes ≡ payload_bytes p → from ≤ length bytes → is_whole (take from bytes) ≡ false
    → (from ≡ 0 → size ≡ 0) → (0 < from → size ≡ 6 + 2 * from) → open_words (take from bytes) ++ drop size (payload_words p) ≡ open_words bytes
last_put bytes p from size are within not_yet none some =
    let front = length-take-le from bytes within in
    last_words (take from bytes) bytes p (drop from bytes) size are (sym (take-append-drop from bytes)) not_yet
    (λ empty. none (omega (arith, front, ap length empty)))
    (λ any. some (omega (arith, front, any)) ∙ ap (λ n. 6 + 2 * n) (sym front))

-- what is put after a front that isn't whole
pub rest_put : (bytes : List ℕ) (from : ℕ) → from ≤ length bytes → 0 < from → is_whole (take from bytes) ≡ false → is_whole bytes ≡ false
    → open_words (take from bytes) ++ eight_words (drop from bytes) ≡ open_words bytes
rest_put bytes from within some not_yet still =
    let all = take-append-drop from bytes in
    let front = length-take-le from bytes within in
    more_words (take from bytes) (drop from bytes) not_yet (subst (λ (b : List ℕ). is_whole b ≡ false) (sym all) still) (omega (arith, front, some)) ∙ ap open_words all

-- there is room for one word more
pub eight_room : (out first bytes word : List ℕ) (i : ℕ) → out ≡ first ++ eight_words (take i bytes) → i < length bytes → length bytes ≤ 259 → length first ≤ 6 → length word ≡ 2
    → length out + length word ≤ 524
eight_room out first bytes word i are below few room two =
    let all = ap length are ∙ length-append first (eight_words (take i bytes)) in
    let each = eight_long (take i bytes) in
    let front = length-take-le i bytes (omega (arith, below)) in
    omega (arith, all, each, front, below, few, room, two)
