-- Some payload begins with what is read.
use Rattle.std.proofs.Common.{◌≡◌, inl, ℕ, zero, suc, ◌+◌, ◌-◌, ◌*◌, ◌/◌, ◌%◌, ◌≤◌, ◌<◌, ◌==◌, nat_lt, Bool, true, false, cond, List, [], ◌∷◌, ◌++◌, length, Some, None, Ok, refl, ap, sym, ◌∙◌, subst, arith, append_assoc, append-nil, length-append}
use Rattle.std.specs.List.{concat, sum}
use Rattle.std.proofs.lemmas.Grind.{common_steps}
use Rattle.cc_base.specs.declared.why.Why.TheVariants as why
use Rattle.hex_digits.specs.HexDigits.{hex_value, upper_hex_digit}
use Rattle.mcc_files.specs.Items.{AreItems}
use Rattle.mcc_files.specs.PayloadOffences.{BeginsForm, BeginsPayload}
use Rattle.mcc_files.specs.Payloads.{IsPayloadForm, Payload, bytes_with, checksum_byte}
use Rattle.mcc_files.specs.PayloadReading.{is_whole, joined, joined_on, why_of_byte}
use Rattle.mcc_files.proofs.SoundLemmas.{packet_so}
use Rattle.mcc_files.proofs.StepLemmas.{joined_both, joined_first, joined_is}
use Rattle.mcc_files.proofs.WrittenLemmas.{AreBytes, digits_are, tail_bytes}

pub form_taken_by : (fewer more right : Bool) → cond fewer None (cond more (Some why.MccSyntax) (cond right None (Some why.AncSum))) ≡ None
    → cond fewer None (cond more (Some why.MccSyntax) None) ≡ None
form_taken_by true more right is = refl
form_taken_by false true right is = absurd (cc)
form_taken_by false false right is = refl

pub open_taken_by : (fewer more : Bool) → more ≡ false → cond fewer None (cond more (Some why.MccSyntax) None) ≡ None
open_taken_by true more none = refl
open_taken_by false true none = absurd (cc)
open_taken_by false false none = refl

pub at_most_count : (count long : ℕ) → nat_lt count long ≡ false → long ≤ count
at_most_count count long test = grind (arith, common_steps)

-- what is taken where sums are judged is taken in form
pub form_taken : (bytes : List ℕ) (byte : ℕ) → why_of_byte true bytes byte ≡ None → why_of_byte false bytes byte ≡ None
form_taken [] byte fine = refl
form_taken (did ∷ []) byte fine = refl
form_taken (did ∷ sdid ∷ []) byte fine = refl
form_taken (did ∷ sdid ∷ count ∷ rest) byte fine = form_taken_by (nat_lt (length rest) count) (nat_lt count (length rest)) (byte == sum (did ∷ sdid ∷ count ∷ rest) % 256) fine

-- where no whole packet stands before it, each byte is taken in form
pub open_taken : (bytes : List ℕ) (byte : ℕ) → is_whole bytes ≡ false → why_of_byte false bytes byte ≡ None
open_taken [] byte open_yet = refl
open_taken (did ∷ []) byte open_yet = refl
open_taken (did ∷ sdid ∷ []) byte open_yet = refl
open_taken (did ∷ sdid ∷ count ∷ rest) byte open_yet = open_taken_by (nat_lt (length rest) count) (nat_lt count (length rest)) open_yet

pub joined_form : (before bytes all : List ℕ) → joined true before bytes ≡ Ok all → joined false before bytes ≡ Ok all
joined_form before [] all is = is
joined_form before (byte ∷ bytes) all is =
    let h = joined_first (why_of_byte true before byte) (joined true (before ++ byte ∷ []) bytes) all is in
    let fine = form_taken before byte h.0 in
    subst (λ r. joined_on r (joined false (before ++ byte ∷ []) bytes) ≡ Ok all) (sym fine) (joined_form (before ++ byte ∷ []) bytes all h.1)

-- lists of bytes
pub more_bytes : (byte : ℕ) (bytes : List ℕ) → byte < 256 → AreBytes bytes → AreBytes (byte ∷ bytes)
more_bytes byte bytes small are zero d below = small
more_bytes byte bytes small are (suc k) d below = are k d (omega (arith, below))

pub no_bytes : AreBytes []
no_bytes = λ k d below. absurd (omega (arith, below))

pub zeros : ℕ → List ℕ
zeros zero = []
zeros (suc n) = 0 ∷ zeros n

pub length_zeros : (n : ℕ) → length (zeros n) ≡ n
unfolding zeros
length_zeros zero = refl
length_zeros (suc n) = ap (λ m. suc m) (length_zeros n)

pub zeros_then : (n last : ℕ) → last < 256 → AreBytes (zeros n ++ last ∷ [])
unfolding zeros
zeros_then zero last small = more_bytes last [] small no_bytes
zeros_then (suc n) last small = more_bytes 0 (zeros n ++ last ∷ []) (omega arith) (zeros_then n last small)

pub checksum_small : (payload : Payload) → checksum_byte payload < 256
checksum_small payload = omega arith

-- a packet goes on after bytes
pub record Completes (judging : Bool) (bytes : List ℕ) : Type 0 where
  pub more : List ℕ
  pub payload : Payload
  pub checksum : ℕ
  pub small : AreBytes more
  pub spelled : bytes ++ more ≡ bytes_with payload checksum
  pub right : judging ≡ true → checksum ≡ checksum_byte payload

pub completes_users : (judging : Bool) (did sdid count : ℕ) (rest : List ℕ) → length rest ≤ count → Completes judging (did ∷ sdid ∷ count ∷ rest)
completes_users judging did sdid count rest few =
    let left = zeros (count - length rest) in
    let payload : Payload = record { did = did; sdid = sdid; user = rest ++ left } in
    let last = checksum_byte payload in
    let long : length (rest ++ left) ≡ count = omega (arith, length-append rest left, length_zeros (count - length rest)) in
    record {
      more = left ++ last ∷ [];
      payload = payload;
      checksum = last;
      small = zeros_then (count - length rest) last (checksum_small payload);
      spelled = ap (λ r. did ∷ sdid ∷ count ∷ r) (sym (append_assoc rest left (last ∷ [])))
          ∙ ap (λ n. did ∷ sdid ∷ n ∷ ((rest ++ left) ++ last ∷ [])) (sym long);
      right = λ on. refl;
    }

-- a packet without user bytes
pub empty_packet : (judging : Bool) (did sdid : ℕ) (before more : List ℕ) → before ++ more ≡ bytes_with (record { did = did; sdid = sdid; user = [] }) (checksum_byte (record { did = did; sdid = sdid; user = [] }))
    → AreBytes more → Completes judging before
empty_packet judging did sdid before more spelled small = record {
  more = more;
  payload = record { did = did; sdid = sdid; user = [] };
  checksum = checksum_byte (record { did = did; sdid = sdid; user = [] });
  small = small;
  spelled = spelled;
  right = λ on. refl;
}

-- its checksum byte
abbrev pub last_of : ℕ → ℕ → List ℕ
last_of did sdid = checksum_byte (record { did = did; sdid = sdid; user = [] }) ∷ []

pub last_byte : (did sdid : ℕ) → AreBytes (last_of did sdid)
last_byte did sdid =
    more_bytes (checksum_byte (record { did = did; sdid = sdid; user = [] })) [] (checksum_small (record { did = did; sdid = sdid; user = [] })) no_bytes

pub zero_more : (bytes : List ℕ) → AreBytes bytes → AreBytes (0 ∷ bytes)
zero_more bytes are = more_bytes 0 bytes (omega arith) are

pub completes : (judging : Bool) (bytes : List ℕ) → joined judging [] bytes ≡ Ok bytes → Completes judging bytes
completes judging [] is =
    empty_packet judging 0 0 [] (0 ∷ 0 ∷ 0 ∷ last_of 0 0) refl
    (zero_more (0 ∷ 0 ∷ last_of 0 0) (zero_more (0 ∷ last_of 0 0) (zero_more (last_of 0 0) (last_byte 0 0))))
completes judging (did ∷ []) is =
    empty_packet judging did 0 (did ∷ []) (0 ∷ 0 ∷ last_of did 0) refl (zero_more (0 ∷ last_of did 0) (zero_more (last_of did 0) (last_byte did 0)))
completes judging (did ∷ sdid ∷ []) is =
    empty_packet judging did sdid (did ∷ sdid ∷ []) (0 ∷ last_of did sdid) refl (zero_more (last_of did sdid) (last_byte did sdid))
completes judging (did ∷ sdid ∷ count ∷ rest) is =
    let cases : (b : Bool) → nat_lt count (length rest) ≡ b → Completes judging (did ∷ sdid ∷ count ∷ rest) =
    elim [
      | true ↦ λ e.
          let packet = packet_so judging (did ∷ sdid ∷ count ∷ rest) (did ∷ sdid ∷ count ∷ rest) is e in
          record {
            more = [];
            payload = packet.payload;
            checksum = packet.checksum;
            small = no_bytes;
            spelled = append-nil (did ∷ sdid ∷ count ∷ rest) ∙ packet.are;
            right = packet.right;
          }
      | false ↦ λ e. completes_users judging did sdid count rest (at_most_count count (length rest) e)
    ] in
    cases (nat_lt count (length rest)) refl

-- bytes as digits
abbrev pub hex_text : List ℕ → List ℕ
hex_text [] = []
hex_text (byte ∷ bytes) = upper_hex_digit (byte / 16) ∷ upper_hex_digit (byte % 16) ∷ hex_text bytes

abbrev pub singles : List ℕ → List (List ℕ)
singles [] = []
singles (byte ∷ bytes) = (byte ∷ []) ∷ singles bytes

pub hex_items : (bytes : List ℕ) → AreBytes bytes → AreItems (singles bytes) (hex_text bytes)
hex_items [] are = refl
hex_items (byte ∷ bytes) are =
    (upper_hex_digit (byte / 16) ∷ upper_hex_digit (byte % 16) ∷ [], hex_text bytes, inl (digits_are byte (are 0 byte (omega arith))), hex_items bytes (tail_bytes byte bytes are), refl)

pub concat_singles : (bytes : List ℕ) → concat (singles bytes) ≡ bytes
concat_singles [] = refl
concat_singles (byte ∷ bytes) = ap (λ b. byte ∷ b) (concat_singles bytes)

pub concat_both : (xs ys : List (List ℕ)) → concat (xs ++ ys) ≡ concat xs ++ concat ys
concat_both [] ys = refl
concat_both (x ∷ xs) ys = ap (λ r. x ++ r) (concat_both xs ys) ∙ sym (append_assoc x (concat xs) (concat ys))

pub items_both : (xs ys : List (List ℕ)) (s t : List ℕ) → AreItems xs s → AreItems ys t → AreItems (xs ++ ys) (s ++ t)
items_both [] ys s t are more = subst (λ u. AreItems ys (u ++ t)) (sym are) more
items_both (x ∷ xs) ys s t (front, rest, item, are, spelled) more =
    (front, rest ++ t, item, items_both xs ys rest t are more, ap (λ u. u ++ t) spelled ∙ append_assoc front rest t)

-- items whose bytes are joined begin a payload
pub begins_payload : (items : List (List ℕ)) (start bytes : List ℕ) → AreItems items start → joined true [] (concat items) ≡ Ok bytes → BeginsPayload start
begins_payload items start bytes are is =
    let same = joined_is true [] (concat items) bytes is in
    let done = completes true (concat items) (is ∙ ap (λ b. Ok b) same) in
    record {
      more = hex_text done.more;
      payload = done.payload;
      is = record {
        items = items ++ singles done.more;
        are = items_both items (singles done.more) start (hex_text done.more) are (hex_items done.more done.small);
        stand_for = concat_both items (singles done.more) ∙ (ap (λ b. concat items ++ b) (concat_singles done.more) ∙ (done.spelled ∙ ap (λ c. bytes_with done.payload c) (done.right refl)));
      };
    }

-- and a payload in form
pub begins_form : (items : List (List ℕ)) (start bytes : List ℕ) → AreItems items start → joined false [] (concat items) ≡ Ok bytes → BeginsForm start
begins_form items start bytes are is =
    let same = joined_is false [] (concat items) bytes is in
    let done = completes false (concat items) (is ∙ ap (λ b. Ok b) same) in
    record {
      more = hex_text done.more;
      form = record {
        items = items ++ singles done.more;
        payload = done.payload;
        checksum = done.checksum;
        are = items_both items (singles done.more) start (hex_text done.more) are (hex_items done.more done.small);
        stand_for = concat_both items (singles done.more) ∙ (ap (λ b. concat items ++ b) (concat_singles done.more) ∙ done.spelled);
      };
    }

-- so does a first digit after them, where they are no whole packet
pub begins_digit : (items : List (List ℕ)) (start bytes : List ℕ) (digit high : ℕ) → AreItems items start → joined true [] (concat items) ≡ Ok bytes
    → hex_value digit ≡ Some high → is_whole bytes ≡ false → BeginsForm (start ++ digit ∷ [])
begins_digit items start bytes digit high are is digit_is open_yet =
    let byte = 16 * high + 0 in
    let taken = open_taken bytes byte open_yet in
    let last : joined false bytes (byte ∷ []) ≡ Ok (bytes ++ byte ∷ []) = subst (λ r. joined_on r (Ok (bytes ++ byte ∷ [])) ≡ Ok (bytes ++ byte ∷ [])) (sym taken) refl in
    let all = joined_both false [] (concat items) bytes (byte ∷ []) (Ok (bytes ++ byte ∷ [])) (joined_form [] (concat items) bytes is) last in
    let one : AreItems ((byte ∷ []) ∷ []) (digit ∷ 48 ∷ []) =
    (digit ∷ 48 ∷ [], [], inl (record { high = digit; low = 48; first = high; second = 0; spelled = refl; high_is = digit_is; low_is = refl; are = refl }), refl, refl) in
    let more = items_both items ((byte ∷ []) ∷ []) start (digit ∷ 48 ∷ []) are one in
    let form = begins_form (items ++ (byte ∷ []) ∷ []) (start ++ digit ∷ 48 ∷ []) (bytes ++ byte ∷ []) more
    (subst (λ b. joined false [] b ≡ Ok (bytes ++ byte ∷ [])) (sym (concat_both items ((byte ∷ []) ∷ []))) all) in
    record {
      more = 48 ∷ form.more;
      form = subst (λ t. IsPayloadForm t) (append_assoc start (digit ∷ 48 ∷ []) form.more ∙ sym (append_assoc start (digit ∷ []) (48 ∷ form.more))) form.form;
    }
