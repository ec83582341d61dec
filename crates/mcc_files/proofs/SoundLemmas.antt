-- What is read is a payload.
use Rattle.std.proofs.Common.{◌≡◌, inl, inr, ℕ, suc, ◌+◌, ◌*◌, ◌%◌, ◌≤◌, ◌<◌, ◌==◌, ◌||◌, not, nat_lt, Bool, true, false, cond, List, [], ◌∷◌, ◌++◌, length, Option, Some, None, Result, Ok, Err, refl, ap, sym, ◌∙◌, subst, arith, append_assoc, append-nil, length-append, zero-add}
use Rattle.std.specs.List.{concat, sum}
use Rattle.std.proofs.lemmas.Bool.{eqb-true}
use Rattle.std.proofs.lemmas.Grind.{common_steps}
use Rattle.cc_base.specs.declared.refusal.Refusal.{Refusal}
use Rattle.cc_base.specs.declared.why.Why.{Why}
use Rattle.cc_base.specs.declared.why.Why.TheVariants as why
use Rattle.hex_digits.specs.HexDigits.{hex_value}
use Rattle.mcc_files.specs.Items.{AreItems, IsItem}
use Rattle.mcc_files.specs.Letters.{letter_bytes}
use Rattle.mcc_files.specs.Payloads.{IsPayload, Payload, bytes_with, checksum_byte, payload_bytes}
use Rattle.mcc_files.specs.PayloadReading.{Open, behind, is_whole, item_begins, item_ends, joined, no_item, nothing_open, read_from, read_payload, second_digit, step, stepped, why_of_byte}
use Rattle.mcc_files.specs.declared.payload_reader.Offence.{Offence}
use Rattle.mcc_files.proofs.PacketLemmas.{checksum_is_sum, whole_of}
use Rattle.mcc_files.proofs.StepLemmas.{at_bytes, joined_both, joined_first, joined_is, whole_stops}

-- how a byte is taken: as a letter, as a first digit, or as a second one
pub data Takes (judging : Bool) (front : Open) (byte : ℕ) (next : Open) : Type 0 where
  as_letter : (brought : List ℕ) → front.digit ≡ None → letter_bytes byte ≡ Some brought → joined judging front.bytes brought ≡ Ok next.bytes → next.digit ≡ None
      → Takes judging front byte next
  as_first : (high : ℕ) → front.digit ≡ None → hex_value byte ≡ Some high → next ≡ record { digit = Some high; bytes = front.bytes } → Takes judging front byte next
  as_second : (high low : ℕ) → front.digit ≡ Some high → hex_value byte ≡ Some low → joined judging front.bytes ((16 * high + low) ∷ []) ≡ Ok next.bytes → next.digit ≡ None
      → Takes judging front byte next

-- an item has ended
pub ended_so : (back : ℕ) (result : Result (List ℕ) Why) (next : Open) → item_ends back result ≡ Ok next → (result ≡ Ok next.bytes) × (next.digit ≡ None)
ended_so back (Ok bytes) next is = let same : record { digit = None; bytes = bytes } ≡ next = cc in (ap (λ o. Ok o.bytes) same, sym (ap (λ o. o.digit) same))
ended_so back (Err reason) next is = absurd (cc)

pub begins_so : (judging : Bool) (bytes : List ℕ) (byte : ℕ) (found : Option (List ℕ)) (digit : Option ℕ) (next : Open)
    → letter_bytes byte ≡ found → hex_value byte ≡ digit → item_begins judging bytes found digit ≡ Ok next
    → Takes judging (at_bytes bytes) byte next
begins_so judging bytes byte (Some brought) digit next letter_is digit_is is =
    let ends = ended_so 0 (joined judging bytes brought) next is in
    as_letter brought refl letter_is ends.0 ends.1
begins_so judging bytes byte None (Some high) next letter_is digit_is is = as_first high refl digit_is (cc)
begins_so judging bytes byte None None next letter_is digit_is is = absurd (cc)

pub second_so : (judging : Bool) (bytes : List ℕ) (byte high : ℕ) (digit : Option ℕ) (next : Open)
    → hex_value byte ≡ digit → second_digit judging bytes high digit ≡ Ok next
    → Takes judging (record { digit = Some high; bytes = bytes }) byte next
second_so judging bytes byte high (Some low) next digit_is is =
    let ends = ended_so 1 (joined judging bytes ((16 * high + low) ∷ [])) next is in
    as_second high low refl digit_is ends.0 ends.1
second_so judging bytes byte high None next digit_is is = absurd (cc)

-- where a byte is taken, no whole packet stands before it
pub open_so : (whole : Bool) (rest : Result Open Offence) (next : Open) → cond whole no_item rest ≡ Ok next → (whole ≡ false) × (rest ≡ Ok next)
open_so true rest next is = absurd (cc)
open_so false rest next is = (refl, is)

pub stepped_so : (judging : Bool) (digit : Option ℕ) (bytes : List ℕ) (byte : ℕ) (next : Open) → stepped judging digit bytes byte ≡ Ok next
    → Takes judging (record { digit = digit; bytes = bytes }) byte next
stepped_so judging None bytes byte next is = begins_so judging bytes byte (letter_bytes byte) (hex_value byte) next refl refl is
stepped_so judging (Some high) bytes byte next is = second_so judging bytes byte high (hex_value byte) next refl is

pub step_so : (judging : Bool) (front : Open) (byte : ℕ) (next : Open) → step judging front byte ≡ Ok next → Takes judging front byte next
step_so judging front byte next is =
    stepped_so judging front.digit front.bytes byte next (open_so (is_whole front.bytes) (stepped judging front.digit front.bytes byte) next is).1

-- the text after an open digit, or after none, is items
abbrev pub GoesOn : Option ℕ → List (List ℕ) → List ℕ → Type 0
GoesOn None items text = AreItems items text
GoesOn (Some high) [] text = ⊥
GoesOn (Some high) (bytes ∷ items) text =
    (low : ℕ) × (second : ℕ) × (rest : List ℕ) × (text ≡ low ∷ rest) × (hex_value low ≡ Some second) × (bytes ≡ (16 * high + second) ∷ []) × AreItems items rest

-- what was read after a front
pub record HasItems (judging : Bool) (front : Open) (text bytes : List ℕ) : Type 0 where
  pub items : List (List ℕ)
  pub go_on : GoesOn front.digit items text
  pub join : joined judging front.bytes (concat items) ≡ Ok bytes
  pub whole : is_whole bytes ≡ true

-- what is read after a byte
pub behind_so : (place : ℕ) (one : Result Open Offence) (rest : Open → Result (List ℕ) Refusal) (bytes : List ℕ) → behind place one rest ≡ Ok bytes
    → (next : Open) × (one ≡ Ok next) × (rest next ≡ Ok bytes)
behind_so place (Ok next) rest bytes is = (next, refl, is)
behind_so place (Err offence) rest bytes is = absurd (cc)

-- an item in front of items
pub item_more : (bytes : List ℕ) (items : List (List ℕ)) (front rest : List ℕ) → IsItem bytes front → AreItems items rest → AreItems (bytes ∷ items) (front ++ rest)
item_more bytes items front rest item more = (front, rest, item, more, refl)

pub has_ended : (judging : Bool) (front : Open) (bytes : List ℕ) → front.digit ≡ None → is_whole front.bytes ≡ true → front.bytes ≡ bytes → HasItems judging front [] bytes
has_ended judging front bytes none whole same = record {
  items = [];
  go_on = subst (λ d. GoesOn d [] []) (sym none) refl;
  join = ap (λ b. Ok b) same;
  whole = subst (λ b. is_whole b ≡ true) same whole;
}

-- a first digit, and the item that it begins
pub first_of : (judging : Bool) (front : Open) (byte high : ℕ) (text bytes : List ℕ) (items : List (List ℕ)) → front.digit ≡ None → hex_value byte ≡ Some high
    → GoesOn (Some high) items text → joined judging front.bytes (concat items) ≡ Ok bytes → is_whole bytes ≡ true → HasItems judging front (byte ∷ text) bytes
first_of judging front byte high text bytes [] none digit_is go join whole = absurd go
first_of judging front byte high text bytes (item ∷ items) none digit_is (low, second, rest, spelled, low_is, is, more) join whole = record {
  items = item ∷ items;
  go_on = subst (λ d. GoesOn d (item ∷ items) (byte ∷ text)) (sym none)
      (subst (λ t. AreItems (item ∷ items) (byte ∷ t)) (sym spelled)
      (item_more item items (byte ∷ low ∷ []) rest
      (inl (record { high = byte; low = low; first = high; second = second; spelled = refl; high_is = digit_is; low_is = low_is; are = is })) more));
  join = join;
  whole = whole;
}

pub has_more : (judging : Bool) (front : Open) (byte : ℕ) (next : Open) (text bytes : List ℕ) → Takes judging front byte next → HasItems judging next text bytes
    → HasItems judging front (byte ∷ text) bytes
has_more judging front byte next text bytes (as_letter brought none letter_is join ended) has =
    let more : AreItems has.items text = subst (λ d. GoesOn d has.items text) ended has.go_on in
    record {
      items = brought ∷ has.items;
      go_on = subst (λ d. GoesOn d (brought ∷ has.items) (byte ∷ text)) (sym none)
          (item_more brought has.items (byte ∷ []) text (inr (record { letter = byte; spelled = refl; is = letter_is })) more);
      join = joined_both judging front.bytes brought next.bytes (concat has.items) (Ok bytes) join has.join;
      whole = has.whole;
    }
has_more judging front byte next text bytes (as_first high none digit_is is) has =
    let go : GoesOn (Some high) has.items text = subst (λ o. GoesOn o.digit has.items text) is has.go_on in
    let join : joined judging front.bytes (concat has.items) ≡ Ok bytes = subst (λ o. joined judging o.bytes (concat has.items) ≡ Ok bytes) is has.join in
    first_of judging front byte high text bytes has.items none digit_is go join has.whole
has_more judging front byte next text bytes (as_second high low open_is digit_is join ended) has =
    let more : AreItems has.items text = subst (λ d. GoesOn d has.items text) ended has.go_on in
    record {
      items = ((16 * high + low) ∷ []) ∷ has.items;
      go_on = subst (λ d. GoesOn d (((16 * high + low) ∷ []) ∷ has.items) (byte ∷ text)) (sym open_is) (byte, low, text, refl, digit_is, refl, more);
      join = joined_both judging front.bytes ((16 * high + low) ∷ []) next.bytes (concat has.items) (Ok bytes) join has.join;
      whole = has.whole;
    }

-- the refusal of a text that ends at this place
abbrev pub ends_here : ℕ → Result (List ℕ) Refusal
ends_here place = Err (record { place = place; why = why.MccSyntax })

-- the text has ended
pub ended_whole : (whole : Bool) (front bytes : List ℕ) (place : ℕ) → cond whole (Ok front) (ends_here place) ≡ Ok bytes → (whole ≡ true) × (front ≡ bytes)
ended_whole true front bytes place is = (refl, cc)
ended_whole false front bytes place is = absurd (cc)

pub differ : (b : Bool) → b ≡ false → b ≡ true → ⊥
differ b is other = cc

-- after a byte no digit is open where the packet is whole
pub closed_so : (judging : Bool) (front : Open) (byte : ℕ) (next : Open) → Takes judging front byte next → is_whole front.bytes ≡ false
    → is_whole next.bytes ≡ true → next.digit ≡ None
closed_so judging front byte next (as_letter brought none letter_is join ended) open_yet whole = ended
closed_so judging front byte next (as_first high none digit_is is) open_yet whole =
    let same : next.bytes ≡ front.bytes = ap (λ o. o.bytes) is in
    absurd (differ (is_whole front.bytes) open_yet (subst (λ b. is_whole b ≡ true) same whole))
closed_so judging front byte next (as_second high low open_is digit_is join ended) open_yet whole = ended

pub sound_from : (judging : Bool) (place : ℕ) (front : Open) (text bytes : List ℕ) → (is_whole front.bytes ≡ true → front.digit ≡ None)
    → read_from judging place front text ≡ Ok bytes → HasItems judging front text bytes
sound_from judging place front [] bytes closed is =
    let ends = ended_whole (is_whole front.bytes) front.bytes bytes place is in
    has_ended judging front bytes (closed ends.0) ends.0 ends.1
sound_from judging place front (byte ∷ text) bytes closed is =
    let (next, one, rest) = behind_so place (step judging front byte) (λ next. read_from judging (place + 1) next text) bytes is in
    let takes = step_so judging front byte next one in
    let open_yet = (open_so (is_whole front.bytes) (stepped judging front.digit front.bytes byte) next one).0 in
    has_more judging front byte next text bytes takes (sound_from judging (place + 1) next text bytes (closed_so judging front byte next takes open_yet) rest)

-- what is joined after the count of a packet that is whole then: its user bytes and its checksum byte
pub record HasUser (judging : Bool) (did sdid count : ℕ) (done rest : List ℕ) : Type 0 where
  pub user : List ℕ
  pub checksum : ℕ
  pub spelled : rest ≡ user ++ checksum ∷ []
  pub long : length done + length user ≡ count
  pub right : judging ≡ true → checksum ≡ sum (did ∷ sdid ∷ count ∷ (done ++ user)) % 256

pub last_right : (fewer more : Bool) (judging test : Bool) → fewer ≡ false → more ≡ false
    → cond fewer None (cond more (Some why.MccSyntax) (cond (not judging || test) None (Some why.AncSum))) ≡ None → judging ≡ true → test ≡ true
last_right true more judging test few none is on = absurd (cc)
last_right false true judging test few none is on = absurd (cc)
last_right false false true true few none is on = refl
last_right false false true false few none is on = absurd (cc)
last_right false false false test few none is on = absurd (cc)

pub nothing_behind : (judging : Bool) (before rest all : List ℕ) → is_whole before ≡ true → joined judging before rest ≡ Ok all → rest ≡ []
nothing_behind judging before [] all whole is = refl
nothing_behind judging before (byte ∷ rest) all whole is = absurd (whole_stops judging before byte whole (joined_first (why_of_byte judging before byte) (joined judging (before ++ byte ∷ []) rest) all is).0)

pub not_more : (count long : ℕ) → long ≤ count → nat_lt count long ≡ true → ⊥
not_more count long few more = grind (arith, common_steps)

pub not_less : (count long : ℕ) → long ≤ count → nat_lt count long ≡ false
not_less count long few = grind (arith, common_steps)

pub user_first : (judging : Bool) (did sdid count : ℕ) (done : List ℕ) (byte : ℕ) (rest : List ℕ) → HasUser judging did sdid count (done ++ byte ∷ []) rest
    → HasUser judging did sdid count done (byte ∷ rest)
user_first judging did sdid count done byte rest has = record {
  user = byte ∷ has.user;
  checksum = has.checksum;
  spelled = ap (λ r. byte ∷ r) has.spelled;
  long = omega (arith, has.long, length-append done (byte ∷ []));
  right = λ on. has.right on ∙ ap (λ r. sum (did ∷ sdid ∷ count ∷ r) % 256) (append_assoc done (byte ∷ []) has.user);
}

pub last_of : (judging : Bool) (did sdid count : ℕ) (done : List ℕ) (byte : ℕ) (rest all : List ℕ) → length done ≡ count → nat_lt (length done) count ≡ false
    → why_of_byte judging (did ∷ sdid ∷ count ∷ done) byte ≡ None → joined judging (did ∷ sdid ∷ count ∷ (done ++ byte ∷ [])) rest ≡ Ok all
    → HasUser judging did sdid count done (byte ∷ rest)
last_of judging did sdid count done byte rest all same fewer fine joins =
    let long : length (done ++ byte ∷ []) ≡ suc count = omega (arith, same, length-append done (byte ∷ [])) in
    let whole : is_whole (did ∷ sdid ∷ count ∷ (done ++ byte ∷ [])) ≡ true = whole_of count (length (done ++ byte ∷ [])) (omega arith) in
    let empty = nothing_behind judging (did ∷ sdid ∷ count ∷ (done ++ byte ∷ [])) rest all whole joins in
    let more : nat_lt count (length done) ≡ false = not_less count (length done) (omega arith) in
    record {
      user = [];
      checksum = byte;
      spelled = ap (λ r. byte ∷ r) empty;
      long = omega (arith, same);
      right = λ on.
          eqb-true byte (sum (did ∷ sdid ∷ count ∷ done) % 256)
          (last_right (nat_lt (length done) count) (nat_lt count (length done)) judging (byte == sum (did ∷ sdid ∷ count ∷ done) % 256) fewer more fine on)
          ∙ ap (λ r. sum (did ∷ sdid ∷ count ∷ r) % 256) (sym (append-nil done));
    }

pub users_so : (judging : Bool) (did sdid count : ℕ) (done rest all : List ℕ) → length done ≤ count
    → joined judging (did ∷ sdid ∷ count ∷ done) rest ≡ Ok all → is_whole all ≡ true → HasUser judging did sdid count done rest
users_so judging did sdid count done [] all few is whole =
    let same : did ∷ sdid ∷ count ∷ done ≡ all = cc in
    let more = subst (λ b. is_whole b ≡ true) (sym same) whole in
    absurd (not_more count (length done) few more)
users_so judging did sdid count done (byte ∷ rest) all few is whole =
    let h = joined_first (why_of_byte judging (did ∷ sdid ∷ count ∷ done) byte) (joined judging (did ∷ sdid ∷ count ∷ (done ++ byte ∷ [])) rest) all is in
    let cases : (b : Bool) → nat_lt (length done) count ≡ b → HasUser judging did sdid count done (byte ∷ rest) =
    elim [
      | true ↦ λ e.
          let below : length done < count = grind (arith, common_steps) in
          user_first judging did sdid count done byte rest
          (users_so judging did sdid count (done ++ byte ∷ []) rest all (omega (arith, length-append done (byte ∷ []))) h.1 whole)
      | false ↦ λ e.
          let same : length done ≡ count = grind (arith, common_steps) in
          last_of judging did sdid count done byte rest all same e h.0 h.1
    ] in
    cases (nat_lt (length done) count) refl

-- bytes that are joined, and are whole, are a packet's
pub record IsPacketWith (judging : Bool) (bytes : List ℕ) : Type 0 where
  pub payload : Payload
  pub checksum : ℕ
  pub are : bytes ≡ bytes_with payload checksum
  pub right : judging ≡ true → checksum ≡ checksum_byte payload

pub no_packet : (all : List ℕ) → is_whole all ≡ false → is_whole all ≡ true → ⊥
no_packet all not_whole whole = cc

pub packet_so : (judging : Bool) (bytes all : List ℕ) → joined judging [] bytes ≡ Ok all → is_whole all ≡ true → IsPacketWith judging bytes
packet_so judging [] all is whole = let same : [] ≡ all = cc in absurd (no_packet all (subst (λ b. is_whole b ≡ false) same refl) whole)
packet_so judging (did ∷ []) all is whole = let same : did ∷ [] ≡ all = cc in absurd (no_packet all (subst (λ b. is_whole b ≡ false) same refl) whole)
packet_so judging (did ∷ sdid ∷ []) all is whole = let same : did ∷ sdid ∷ [] ≡ all = cc in absurd (no_packet all (subst (λ b. is_whole b ≡ false) same refl) whole)
packet_so judging (did ∷ sdid ∷ count ∷ rest) all is whole =
    let has = users_so judging did sdid count [] rest all (omega arith) is whole in
    let payload : Payload = record { did = did; sdid = sdid; user = has.user } in
    let long : count ≡ length has.user = sym (sym (zero-add (length has.user)) ∙ has.long) in
    record {
      payload = payload;
      checksum = has.checksum;
      are = ap (λ r. did ∷ sdid ∷ count ∷ r) has.spelled ∙ ap (λ n. did ∷ sdid ∷ n ∷ (has.user ++ has.checksum ∷ [])) long;
      right = λ on. has.right on ∙ (ap (λ n. sum (did ∷ sdid ∷ n ∷ has.user) % 256) long ∙ sym (checksum_is_sum payload));
    }

-- what is read is a payload
pub read_is_payload : (text bytes : List ℕ) → read_payload text ≡ Ok bytes → (payload : Payload) × IsPayload payload text × (bytes ≡ payload_bytes payload)
read_is_payload text bytes is =
    let has = sound_from true 0 nothing_open text bytes (λ whole. refl) is in
    let packet = packet_so true (concat has.items) bytes has.join has.whole in
    let same : concat has.items ≡ payload_bytes packet.payload = packet.are ∙ ap (λ c. bytes_with packet.payload c) (packet.right refl) in
    (packet.payload, record { items = has.items; are = has.go_on; stand_for = same }, joined_is true [] (concat has.items) bytes has.join ∙ same)
