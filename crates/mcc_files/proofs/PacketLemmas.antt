-- The bytes of whole packets, and of those that are begun.
use Rattle.std.proofs.Common.{◌≡◌, ℕ, ◌+◌, ◌%◌, ◌≤◌, ◌<◌, ◌==◌, nat_lt, Bool, true, false, cond, List, [], ◌∷◌, ◌++◌, length, map, Some, None, Ok, refl, ap, sym, ◌∙◌, arith, append_assoc, append-nil, length-append, eq-eqb}
use Rattle.std.specs.List.{fold, sum}
use Rattle.std.proofs.lemmas.Grind.{common_steps}
use Rattle.cc_base.specs.declared.why.Why.TheVariants as why
use Rattle.anc_words.specs.Writing.{checksum_word, eight_bit_word, nine_bit_word, summed_words}
use Rattle.mcc_files.specs.Payloads.{Payload, bytes_with, checksum_byte}
use Rattle.mcc_files.specs.PayloadReading.{is_whole, joined, why_of_byte}
use Rattle.mcc_files.proofs.StepLemmas.{joined_both}

-- the sum of 8-bit words, and of their bytes, have the same low eight bits
pub low_bits : (byte : ℕ) → eight_bit_word byte % 256 ≡ byte % 256
low_bits byte = grind (arith, common_steps)

abbrev pub sum_onto : ℕ → List ℕ → ℕ
sum_onto start bytes = fold (λ a x. a + x) start bytes

pub low_sum : (start other : ℕ) (bytes : List ℕ) → start % 256 ≡ other % 256 → sum_onto start (map eight_bit_word bytes) % 256 ≡ sum_onto other bytes % 256
low_sum start other [] same = same
low_sum start other (byte ∷ bytes) same =
    let low = low_bits byte in
    low_sum (start + eight_bit_word byte) (other + byte) bytes (omega (arith, low))

pub low_nine : (n : ℕ) → nine_bit_word (n % 512) % 256 ≡ n % 256
low_nine n = grind (arith, common_steps)

pub low_checksum : (words : List ℕ) → checksum_word words % 256 ≡ sum words % 256
low_checksum words = low_nine (sum words)

-- the checksum byte is the low eight bits of the sum of the bytes before it
pub checksum_is_sum : (payload : Payload) → checksum_byte payload ≡ sum (payload.did ∷ payload.sdid ∷ length payload.user ∷ payload.user) % 256
checksum_is_sum payload =
    low_checksum (summed_words payload.did payload.sdid payload.user)
    ∙ low_sum 0 0 (payload.did ∷ payload.sdid ∷ length payload.user ∷ payload.user) refl

-- a byte of the user's that is to come is taken
pub user_taken : (judging : Bool) (did sdid count : ℕ) (rest : List ℕ) (byte : ℕ) → length rest < count → why_of_byte judging (did ∷ sdid ∷ count ∷ rest) byte ≡ None
user_taken judging did sdid count rest byte fewer = grind (arith, common_steps)

-- and so are as many as the count says
pub users_joined : (judging : Bool) (did sdid count : ℕ) (rest user : List ℕ) → length rest + length user ≤ count
    → joined judging (did ∷ sdid ∷ count ∷ rest) user ≡ Ok (did ∷ sdid ∷ count ∷ (rest ++ user))
users_joined judging did sdid count rest [] few = ap (λ r. Ok (did ∷ sdid ∷ count ∷ r)) (sym (append-nil rest))
users_joined judging did sdid count rest (byte ∷ user) few =
    let taken = user_taken judging did sdid count rest byte (omega arith) in
    let below = users_joined judging did sdid count (rest ++ byte ∷ []) user (omega (arith, length-append rest (byte ∷ []))) in
    rw taken (below ∙ ap (λ r. Ok (did ∷ sdid ∷ count ∷ r)) (append_assoc rest (byte ∷ []) user))

pub last_true : (fewer more right : Bool) → more ≡ false → right ≡ true
    → cond fewer None (cond more (Some why.MccSyntax) (cond right None (Some why.AncSum))) ≡ None
last_true true more right none is = refl
last_true false more right none is = rw (none, is) refl

-- the checksum byte is taken that is right, or where none is judged
pub last_taken : (judging : Bool) (did sdid count : ℕ) (rest : List ℕ) (byte : ℕ) → length rest ≡ count
    → (judging ≡ true → byte ≡ sum (did ∷ sdid ∷ count ∷ rest) % 256) → why_of_byte judging (did ∷ sdid ∷ count ∷ rest) byte ≡ None
last_taken true did sdid count rest byte same right =
    let is = right refl in
    let test : (byte == sum (did ∷ sdid ∷ count ∷ rest) % 256) ≡ true = eq-eqb byte (sum (did ∷ sdid ∷ count ∷ rest) % 256) is in
    last_true (nat_lt (length rest) count) (nat_lt count (length rest)) (byte == sum (did ∷ sdid ∷ count ∷ rest) % 256) (grind (arith, common_steps)) test
last_taken false did sdid count rest byte same right =
    last_true (nat_lt (length rest) count) (nat_lt count (length rest)) true (grind (arith, common_steps)) refl

-- the bytes of a packet are joined
pub packet_joined : (judging : Bool) (payload : Payload) (checksum : ℕ) → (judging ≡ true → checksum ≡ checksum_byte payload)
    → joined judging [] (bytes_with payload checksum) ≡ Ok (bytes_with payload checksum)
packet_joined judging payload checksum right =
    let did = payload.did in
    let sdid = payload.sdid in
    let user = payload.user in
    let users = users_joined judging did sdid (length user) [] user (omega arith) in
    let taken = last_taken judging did sdid (length user) user checksum refl (λ on. right on ∙ checksum_is_sum payload) in
    let last : joined judging (did ∷ sdid ∷ length user ∷ user) (checksum ∷ []) ≡ Ok (bytes_with payload checksum) = rw taken refl in
    joined_both judging (did ∷ sdid ∷ length user ∷ []) user (did ∷ sdid ∷ length user ∷ user) (checksum ∷ []) (Ok (bytes_with payload checksum)) users last

pub whole_of : (count long : ℕ) → count < long → nat_lt count long ≡ true
whole_of count long more = grind (arith, common_steps)

pub packet_whole : (payload : Payload) (checksum : ℕ) → is_whole (bytes_with payload checksum) ≡ true
packet_whole payload checksum = whole_of (length payload.user) (length (payload.user ++ checksum ∷ [])) (omega (arith, length-append payload.user (checksum ∷ [])))
