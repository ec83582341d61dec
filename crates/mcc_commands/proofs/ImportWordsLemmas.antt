-- The words of the first bytes of a payload.
use Rattle.std.proofs.Common.{◌≡◌, ℕ, zero, suc, ◌+◌, ◌*◌, ◌≤◌, inl, inr, true, false, cond, List, [], ◌∷◌, ◌++◌, append_assoc, append-nil, length, length-append, take, drop, Ok, refl, ap, sym, ◌∙◌, subst, arith}
use Rattle.std.proofs.Math.Seq.{take-append_seam}
use Rattle.std.proofs.lemmas.Bool.{cases_Bool}
use Rattle.std.proofs.lemmas.List.{take-append-drop, take-take}
use Rattle.std.specs.List.{flat_map}
use Rattle.anc_words.specs.Writing.{checksum_word, eight_bit_word, summed_words, word_bytes}
use Rattle.mcc_files.specs.Reading.{payload_in}
use Rattle.mcc_files.specs.Payloads.{Payload, bytes_with, checksum_byte, payload_bytes}
use Rattle.mcc_files.specs.PayloadWords.{payload_words}
use Rattle.mcc_files.specs.PayloadReading.{is_whole, joined}
use Rattle.mcc_files.proofs.CompleteLemmas.{completes}
use Rattle.mcc_files.proofs.PacketLemmas.{packet_joined, packet_whole}
use Rattle.mcc_files.proofs.SoundLemmas.{nothing_behind}
use Rattle.mcc_files.proofs.StepLemmas.{joined_is, joined_split}
use Rattle.words_files.proofs.WordLemmas.{front_of}
use Rattle.mcc_commands.specs.Offences.{front_words}
use Rattle.mcc_commands.specs.Words.{eight_words, flag_words, open_words}

-- the words of bytes, and of others after them
pub eight_both : (xs ys : List ℕ) → eight_words (xs ++ ys) ≡ eight_words xs ++ eight_words ys
eight_both [] ys = refl
eight_both (x ∷ xs) ys = ap (λ r. word_bytes (eight_bit_word x) ++ r) (eight_both xs ys)

pub eight_long : (xs : List ℕ) → length (eight_words xs) ≡ length xs + length xs
eight_long [] = refl
eight_long (x ∷ xs) = let rest = eight_long xs in omega (arith, rest)

pub words_both : (xs ys : List ℕ) → flat_map word_bytes (xs ++ ys) ≡ flat_map word_bytes xs ++ flat_map word_bytes ys
words_both [] ys = refl
words_both (x ∷ xs) ys = ap (λ r. word_bytes x ++ r) (words_both xs ys)

-- the bytes of a payload before its checksum byte
abbrev pub head_of : Payload → List ℕ
head_of p = p.did ∷ p.sdid ∷ length p.user ∷ p.user

abbrev pub last_word : Payload → List ℕ
last_word p = word_bytes (checksum_word (summed_words p.did p.sdid p.user))

pub words_split : (p : Payload) → payload_words p ≡ flag_words ++ (eight_words (head_of p) ++ last_word p)
words_split p = ap (λ r. flag_words ++ r) (words_both (summed_words p.did p.sdid p.user) (checksum_word (summed_words p.did p.sdid p.user) ∷ []))

pub words_front : (p : Payload) (bytes more : List ℕ) → head_of p ≡ bytes ++ more → payload_words p ≡ (flag_words ++ eight_words bytes) ++ (eight_words more ++ last_word p)
words_front p bytes more spelled =
    words_split p
    ∙ (ap (λ h. flag_words ++ (eight_words h ++ last_word p)) spelled
    ∙ (ap (λ h. flag_words ++ (h ++ last_word p)) (eight_both bytes more)
    ∙ ap (λ h. flag_words ++ h) (append_assoc (eight_words bytes) (eight_words more) (last_word p))))

pub words_long : (p : Payload) → length (payload_words p) ≡ 14 + (length p.user + length p.user)
words_long p =
    let all = ap length (words_split p) in
    let each = eight_long (head_of p) in
    let both = length-append (eight_words (head_of p)) (last_word p) in
    omega (arith, all, each, both)

-- a front of a payload that isn't whole stands before its checksum byte
pub before_last : (p : Payload) (bytes more : List ℕ) → payload_bytes p ≡ bytes ++ more → is_whole bytes ≡ false → (rest : List ℕ) × (head_of p ≡ bytes ++ rest)
before_last p bytes [] spelled not_yet =
    let all : payload_bytes p ≡ bytes = spelled ∙ append-nil bytes in
    let whole : is_whole bytes ≡ true = subst (λ (b : List ℕ). is_whole b ≡ true) all (packet_whole p (checksum_byte p)) in
    absurd (cc)
before_last p bytes (x ∷ more) spelled not_yet =
    let long = ap length spelled in
    let parts = length-append bytes (x ∷ more) in
    let own = length-append (head_of p) (checksum_byte p ∷ []) in
    front_of bytes (head_of p) (x ∷ more) (checksum_byte p ∷ []) (sym spelled) (omega (arith, long, parts, own))

-- a whole front is all of it
pub whole_front : (p : Payload) (bytes more : List ℕ) → payload_bytes p ≡ bytes ++ more → is_whole bytes ≡ true → payload_bytes p ≡ bytes
whole_front p bytes more spelled whole =
    let all : joined true [] (bytes ++ more) ≡ Ok (payload_bytes p) =
    subst (λ (b : List ℕ). joined true [] b ≡ Ok (payload_bytes p)) spelled (packet_joined true p (checksum_byte p) (λ on. refl)) in
    let twice = joined_split true [] bytes more (payload_bytes p) all in
    let same : twice.middle ≡ bytes = joined_is true [] bytes twice.middle twice.first in
    let none = nothing_behind true twice.middle more (payload_bytes p) (subst (λ (b : List ℕ). is_whole b ≡ true) (sym same) whole) twice.second in
    spelled ∙ (ap (λ m. bytes ++ m) none ∙ append-nil bytes)

pub payload_again : (p : Payload) → payload_in (payload_bytes p) ≡ p
payload_again p = ap (λ (u : List ℕ). record { did = p.did; sdid = p.sdid; user = u }) (take-append_seam p.user (checksum_byte p ∷ []))

-- the words of open bytes, whether they are whole or not
pub open_whole : (bytes : List ℕ) → is_whole bytes ≡ true → open_words bytes ≡ payload_words (payload_in bytes)
open_whole [] whole = absurd (cc)
open_whole (byte ∷ bytes) whole = ap (λ t. cond t (payload_words (payload_in (byte ∷ bytes))) (flag_words ++ eight_words (byte ∷ bytes))) whole

pub open_not_yet : (byte : ℕ) (bytes : List ℕ) → is_whole (byte ∷ bytes) ≡ false → open_words (byte ∷ bytes) ≡ flag_words ++ eight_words (byte ∷ bytes)
open_not_yet byte bytes not_yet = ap (λ t. cond t (payload_words (payload_in (byte ∷ bytes))) (flag_words ++ eight_words (byte ∷ bytes))) not_yet

pub whole_words : (p : Payload) → open_words (payload_bytes p) ≡ payload_words p
whole_words p = open_whole (payload_bytes p) (packet_whole p (checksum_byte p)) ∙ ap payload_words (payload_again p)

-- the words of a front of a payload are a front of its words
pub front_is_open : (p : Payload) (bytes more : List ℕ) → payload_bytes p ≡ bytes ++ more → front_words p (length bytes) ≡ open_words bytes
front_is_open p [] more spelled = refl
front_is_open p (byte ∷ bytes) more spelled = elim (cases_Bool (is_whole (byte ∷ bytes))) [
  | inl whole ↦
      let all = whole_front p (byte ∷ bytes) more spelled whole in
      let long = ap length all in
      let own = length-append (head_of p) (checksum_byte p ∷ []) in
      let size = words_long p in
      let count : 2 * (length bytes + 4) ≡ length (payload_words p) = omega (arith, long, own, size) in
      let every : take (2 * (length bytes + 4)) (payload_words p) ≡ payload_words p =
      ap (λ (n : ℕ). take n (payload_words p)) count ∙ (ap (λ l. take (length (payload_words p)) l) (sym (append-nil (payload_words p))) ∙ take-append_seam (payload_words p) []) in
      every ∙ (sym (whole_words p) ∙ ap open_words all)
  | inr not_yet ↦
      let (rest, head) = before_last p (byte ∷ bytes) more spelled not_yet in
      let front = flag_words ++ eight_words (byte ∷ bytes) in
      let split = words_front p (byte ∷ bytes) rest head in
      let each = eight_long (byte ∷ bytes) in
      let count : 2 * (length bytes + 4) ≡ length front = omega (arith, each) in
      ap (λ (n : ℕ). take n (payload_words p)) count
      ∙ (ap (λ l. take (length front) l) split ∙ (take-append_seam front (eight_words rest ++ last_word p) ∙ sym (open_not_yet byte bytes not_yet)))
]

-- a payload that continues with bytes
pub record GoesOn (bytes : List ℕ) : Type 0 where
  pub payload : Payload
  pub more : List ℕ
  pub spelled : payload_bytes payload ≡ bytes ++ more

pub goes_on : (bytes : List ℕ) → joined true [] bytes ≡ Ok bytes → GoesOn bytes
goes_on bytes join =
    let c = completes true bytes join in
    record { payload = c.payload; more = c.more; spelled = ap (λ (n : ℕ). bytes_with c.payload n) (sym (c.right refl)) ∙ sym c.spelled }

-- a longer front has more words after
pub record WordsOn (fewer more : List ℕ) : Type 0 where
  pub rest : List ℕ
  pub spelled : more ≡ fewer ++ rest

pub on_both : (fewer middle more : List ℕ) → WordsOn fewer middle → WordsOn middle more → WordsOn fewer more
on_both fewer middle more first second = record {
  rest = first.rest ++ second.rest;
  spelled = second.spelled ∙ (ap (λ (w : List ℕ). w ++ second.rest) first.spelled ∙ append_assoc fewer first.rest second.rest);
}

pub on_none : (fewer more : List ℕ) → more ≡ fewer → WordsOn fewer more
on_none fewer more same = record { rest = []; spelled = same ∙ sym (append-nil fewer) }

pub takes_on : (m n : ℕ) (words : List ℕ) → m ≤ n → WordsOn (take m words) (take n words)
takes_on m n words fewer = record {
  rest = drop m (take n words);
  spelled = sym (take-append-drop m (take n words)) ∙ ap (λ t. t ++ drop m (take n words)) (take-take m n words fewer);
}

pub fronts_on : (p : Payload) (m n : ℕ) → m ≤ n → WordsOn (front_words p m) (front_words p n)
fronts_on p zero n fewer = record { rest = front_words p n; spelled = refl }
fronts_on p (suc m) zero fewer = absurd (omega (arith, fewer))
fronts_on p (suc m) (suc n) fewer = takes_on (2 * (m + 4)) (2 * (n + 4)) (payload_words p) (omega (arith, fewer))

pub open_on : (bytes more : List ℕ) → joined true [] (bytes ++ more) ≡ Ok (bytes ++ more) → WordsOn (open_words bytes) (open_words (bytes ++ more))
open_on bytes more join =
    let g = goes_on (bytes ++ more) join in
    let first = front_is_open g.payload bytes (more ++ g.more) (g.spelled ∙ append_assoc bytes more g.more) in
    let second = front_is_open g.payload (bytes ++ more) g.more g.spelled in
    let long = length-append bytes more in
    let on = fronts_on g.payload (length bytes) (length (bytes ++ more)) (omega (arith, long)) in
    record { rest = on.rest; spelled = sym second ∙ (on.spelled ∙ ap (λ f. f ++ on.rest) first) }
