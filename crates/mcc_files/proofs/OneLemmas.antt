-- A text has one first offence, which is the one that is read.
use Rattle.std.proofs.Common.{◌≡◌, inl, inr, ℕ, ◌+◌, ◌-◌, ◌*◌, Bool, true, false, List, [], ◌∷◌, ◌++◌, length, Option, Some, None, Result, Ok, Err, IsSome, refl, ap, sym, ◌∙◌, subst, arith, append_assoc, append-nil}
use Rattle.std.specs.List.{concat}
use Rattle.cc_base.specs.declared.refusal.Refusal.{Refusal}
use Rattle.cc_base.specs.declared.why.Why.{Why}
use Rattle.cc_base.specs.declared.why.Why.TheVariants as why
use Rattle.hex_digits.specs.HexDigits.{hex_value}
use Rattle.mcc_files.specs.Items.{AreItems, IsItem}
use Rattle.mcc_files.specs.Letters.{letter_bytes}
use Rattle.mcc_files.specs.PayloadOffences.{BeginsForm, BeginsPayload, ByteOffends, EndsEarly, IsFirstOffence, IsItemWhy, IsOpenDigit, IsUnoffending, ItemOffends}
use Rattle.mcc_files.specs.Payloads.{IsPayloadForm, bytes_with, checksum_byte, payload_bytes}
use Rattle.mcc_files.specs.PayloadReading.{Open, is_whole, joined, joined_on, no_item, nothing_open, read_from, read_payload, step, stepped}
use Rattle.mcc_files.specs.declared.payload_reader.Offence.{Offence}
use Rattle.mcc_files.proofs.CompleteLemmas.{begins_form, begins_payload, concat_both, items_both, joined_form, open_taken}
use Rattle.mcc_files.proofs.FirstLemmas.{Stands, at_item, at_digit, Refuses, of_letter, of_digits, of_byte, both_ways, closed_of, digit_step, form_leads, item_why, no_going_on, refused_by, stands_lead, stands_on, stands_unoffending, whole_refuses, whole_stop}
use Rattle.mcc_files.proofs.LetterLemmas.{no_letter_is_digit}
use Rattle.mcc_files.proofs.PacketLemmas.{packet_joined}
use Rattle.mcc_files.proofs.ReadLemmas.{items_lead}
use Rattle.mcc_files.proofs.SoundLemmas.{open_so, packet_so, step_so}
use Rattle.mcc_files.proofs.StepLemmas.{at_bytes, joined_both, joined_is, joined_split, leads, read_leads}

-- an item, and the bytes for which it stands, are read one way, whatever follows
pub record SameItem (b c f g x y : List ℕ) : Type 0 where
  pub text : f ≡ g
  pub bytes : b ≡ c
  pub rest : x ≡ y

pub some_is : (m n : ℕ) (found other : Option ℕ) → found ≡ Some m → other ≡ Some n → found ≡ other → m ≡ n
some_is m n found other one two same = cc

pub some_are : (m n : List ℕ) (found other : Option (List ℕ)) → found ≡ Some m → other ≡ Some n → found ≡ other → m ≡ n
some_are m n found other one two same = cc

pub not_both : (digit letter value : ℕ) (stands : List ℕ) → digit ≡ letter → hex_value digit ≡ Some value → letter_bytes letter ≡ Some stands → ⊥
not_both digit letter value stands same is stands_is =
    let none : letter_bytes letter ≡ None = subst (λ d. letter_bytes d ≡ None) same (no_letter_is_digit digit value is) in
    cc

pub item_one : (b c f g x y : List ℕ) → IsItem b f → IsItem c g → f ++ x ≡ g ++ y → SameItem b c f g x y
item_one b c f g x y (inl d) (inl e) same =
    let s : d.high ∷ d.low ∷ x ≡ e.high ∷ e.low ∷ y = sym (ap (λ t. t ++ x) d.spelled) ∙ (same ∙ ap (λ t. t ++ y) e.spelled) in
    let high : d.high ≡ e.high = cc in
    let low : d.low ≡ e.low = cc in
    let rest : x ≡ y = cc in
    let firsts = some_is d.first e.first (hex_value d.high) (hex_value e.high) d.high_is e.high_is (ap (λ h. hex_value h) high) in
    let seconds = some_is d.second e.second (hex_value d.low) (hex_value e.low) d.low_is e.low_is (ap (λ h. hex_value h) low) in
    record {
      text = d.spelled ∙ (ap (λ h. h ∷ d.low ∷ []) high ∙ (ap (λ l. e.high ∷ l ∷ []) low ∙ sym e.spelled));
      bytes = d.are ∙ (ap (λ m. (16 * m + d.second) ∷ []) firsts ∙ (ap (λ m. (16 * e.first + m) ∷ []) seconds ∙ sym e.are));
      rest = rest;
    }
item_one b c f g x y (inl d) (inr l) same =
    let s : d.high ∷ d.low ∷ x ≡ l.letter ∷ y = sym (ap (λ t. t ++ x) d.spelled) ∙ (same ∙ ap (λ t. t ++ y) l.spelled) in
    let firsts : d.high ≡ l.letter = cc in
    absurd (not_both d.high l.letter d.first c firsts d.high_is l.is)
item_one b c f g x y (inr l) (inl d) same =
    let s : l.letter ∷ x ≡ d.high ∷ d.low ∷ y = sym (ap (λ t. t ++ x) l.spelled) ∙ (same ∙ ap (λ t. t ++ y) d.spelled) in
    let firsts : d.high ≡ l.letter = cc in
    absurd (not_both d.high l.letter d.first b firsts d.high_is l.is)
item_one b c f g x y (inr l) (inr m) same =
    let s : l.letter ∷ x ≡ m.letter ∷ y = sym (ap (λ t. t ++ x) l.spelled) ∙ (same ∙ ap (λ t. t ++ y) m.spelled) in
    let letters : l.letter ≡ m.letter = cc in
    let rest : x ≡ y = cc in
    record {
      text = l.spelled ∙ (ap (λ k. k ∷ []) letters ∙ sym m.spelled);
      bytes = some_are b c (letter_bytes l.letter) (letter_bytes m.letter) l.is m.is (ap (λ k. letter_bytes k) letters);
      rest = rest;
    }

-- an item has a byte
pub item_some : (b f x : List ℕ) → IsItem b f → f ++ x ≡ [] → ⊥
item_some b f x (inl d) same = let s : d.high ∷ d.low ∷ x ≡ [] = sym (ap (λ t. t ++ x) d.spelled) ∙ same in cc
item_some b f x (inr l) same = let s : l.letter ∷ x ≡ [] = sym (ap (λ t. t ++ x) l.spelled) ∙ same in cc

-- the items of a text's front are the first of its items
pub record FirstItems (items others : List (List ℕ)) (more : List ℕ) : Type 0 where
  pub rest : List (List ℕ)
  pub are : AreItems rest more
  pub joined_are : others ≡ items ++ rest

pub items_front : (items others : List (List ℕ)) (before more : List ℕ) → AreItems items before → AreItems others (before ++ more) → FirstItems items others more
items_front [] others before more are all = record { rest = others; are = subst (λ b. AreItems others (b ++ more)) are all; joined_are = refl }
items_front (b ∷ items) [] before more (front, rest, item, are, spelled) all =
    absurd (item_some b front (rest ++ more) item (sym (append_assoc front rest more) ∙ (ap (λ t. t ++ more) (sym spelled) ∙ all)))
items_front (b ∷ items) (c ∷ others) before more (front, rest, item, are, spelled) (front', rest', item', are', spelled') =
    let same : front ++ (rest ++ more) ≡ front' ++ rest' = sym (append_assoc front rest more) ∙ (ap (λ t. t ++ more) (sym spelled) ∙ spelled') in
    let one = item_one b c front front' (rest ++ more) rest' item item' same in
    let below = items_front items others rest more are (subst (λ t. AreItems others t) (sym one.rest) are') in
    record {
      rest = below.rest;
      are = below.are;
      joined_are = ap (λ h. h ∷ others) (sym one.bytes) ∙ ap (λ t. b ∷ t) below.joined_are;
    }

-- the bytes of items with which a payload begins are joined
pub begun_joined : (items : List (List ℕ)) (before : List ℕ) → AreItems items before → BeginsPayload before → joined true [] (concat items) ≡ Ok (concat items)
begun_joined items before are begins =
    let front = items_front items begins.is.items before begins.more are begins.is.are in
    let all : joined true [] (concat items ++ concat front.rest) ≡ Ok (payload_bytes begins.payload) =
    subst (λ b. joined true [] b ≡ Ok (payload_bytes begins.payload))
    (sym begins.is.stand_for ∙ (ap (λ i. concat i) front.joined_are ∙ concat_both items front.rest)) (packet_joined true begins.payload (checksum_byte begins.payload) (λ on. refl)) in
    let twice = joined_split true [] (concat items) (concat front.rest) (payload_bytes begins.payload) all in
    twice.first ∙ ap (λ b. Ok b) (joined_is true [] (concat items) twice.middle twice.first)

-- an item offends for one reason
pub why_one : (before bytes : List ℕ) (one other : Why) → IsItemWhy before bytes one → IsItemWhy before bytes other → one ≡ other
why_one before bytes one other (inl a) (inl b) = a.1 ∙ sym b.1
why_one before bytes one other (inl a) (inr b) = absurd (b.0 a.0)
why_one before bytes one other (inr a) (inl b) = absurd (a.0 b.0)
why_one before bytes one other (inr a) (inr b) = a.1 ∙ sym b.1

-- where the bytes of an item aren't joined, the reading stops there
abbrev pub stopped : ℕ → Why → Result (List ℕ) Refusal
stopped place reason = Err (record { place = place; why = reason })

pub stop_on : (place back : ℕ) (reason : Why) (front : Open) (byte : ℕ) (text : List ℕ) (at : ℕ) → step true front byte ≡ Err (record { back = back; why = reason }) → place - back ≡ at
    → read_from true place front (byte ∷ text) ≡ stopped at reason
stop_on place back reason front byte text at stops same = rw stops (ap (λ p. stopped p reason) same)

pub goes_one : (place : ℕ) (front next : Open) (byte : ℕ) (text : List ℕ) → step true front byte ≡ Ok next
    → read_from true place front (byte ∷ text) ≡ read_from true (place + 1) next text
goes_one place front next byte text one = rw one refl

pub reason_whole : (bytes brought : List ℕ) (reason : Why) → joined true bytes brought ≡ Err reason → is_whole bytes ≡ true → reason ≡ why.MccSyntax
reason_whole bytes [] reason is whole = absurd (cc)
reason_whole bytes (byte ∷ brought) reason is whole =
    let refused = whole_refuses bytes byte whole in
    let same : joined true bytes (byte ∷ brought) ≡ Err why.MccSyntax =
    subst (λ r. joined_on r (joined true (bytes ++ byte ∷ []) brought) ≡ Err why.MccSyntax) (sym refused) refl in
    cc

pub whole_read : (place : ℕ) (bytes : List ℕ) (byte : ℕ) (text : List ℕ) (reason : Why) → is_whole bytes ≡ true → reason ≡ why.MccSyntax
    → read_from true place (at_bytes bytes) (byte ∷ text) ≡ stopped place reason
whole_read place bytes byte text reason whole is =
    stop_on place 0 why.MccSyntax (at_bytes bytes) byte text place (whole_stop true (at_bytes bytes) byte whole) (omega arith) ∙ ap (λ r. stopped place r) (sym is)

pub item_stops : (place : ℕ) (bytes brought item rest : List ℕ) (reason : Why) (whole : Bool) → is_whole bytes ≡ whole → IsItem brought item
    → joined true bytes brought ≡ Err reason → read_from true place (at_bytes bytes) (item ++ rest) ≡ stopped place reason
item_stops place bytes brought item rest reason true whole (inl d) wrong =
    subst (λ t. read_from true place (at_bytes bytes) (t ++ rest) ≡ stopped place reason) (sym d.spelled)
    (whole_read place bytes d.high (d.low ∷ rest) reason whole (reason_whole bytes brought reason wrong whole))
item_stops place bytes brought item rest reason true whole (inr l) wrong =
    subst (λ t. read_from true place (at_bytes bytes) (t ++ rest) ≡ stopped place reason) (sym l.spelled)
    (whole_read place bytes l.letter rest reason whole (reason_whole bytes brought reason wrong whole))
item_stops place bytes brought item rest reason false open_yet (inl d) wrong =
    let joins = subst (λ b. joined true bytes b ≡ Err reason) d.are wrong in
    let low_is = d.low_is in
    let stops : step true (record { digit = Some d.first; bytes = bytes }) d.low ≡ Err (record { back = 1; why = reason }) = rw (open_yet, low_is, joins) refl in
    subst (λ t. read_from true place (at_bytes bytes) (t ++ rest) ≡ stopped place reason) (sym d.spelled)
    (
    goes_one place (at_bytes bytes) (record { digit = Some d.first; bytes = bytes }) d.high (d.low ∷ rest) (digit_step true bytes d.high d.first d.high_is open_yet)
    ∙ stop_on (place + 1) 1 reason (record { digit = Some d.first; bytes = bytes }) d.low rest place stops (omega arith)
    )
item_stops place bytes brought item rest reason false open_yet (inr l) wrong =
    let letter_is = l.is in
    let stops : step true (at_bytes bytes) l.letter ≡ Err (record { back = 0; why = reason }) = rw (open_yet, letter_is, wrong) refl in
    subst (λ t. read_from true place (at_bytes bytes) (t ++ rest) ≡ stopped place reason) (sym l.spelled)
    (stop_on place 0 reason (at_bytes bytes) l.letter rest place stops (omega arith))

-- an item that is joined continues with a payload
pub item_goes_on : (items : List (List ℕ)) (before bytes item after : List ℕ) → AreItems items before → joined true [] (concat items) ≡ Ok (concat items)
    → IsItem bytes item → joined true (concat items) bytes ≡ Ok after → BeginsPayload (before ++ item)
item_goes_on items before bytes item after are is one join =
    let single : AreItems (bytes ∷ []) item = (item, [], one, refl, sym (append-nil item)) in
    let joins = joined_both true [] (concat items) (concat items) bytes (Ok after) is join in
    begins_payload (items ++ bytes ∷ []) (before ++ item) after (items_both items (bytes ∷ []) before item are single)
    (subst (λ b. joined true [] b ≡ Ok after) (sym (concat_both items (bytes ∷ []) ∙ ap (λ b. concat items ++ b) (append-nil bytes))) joins)

-- the refusal of an item is read
pub refusal_is : (r : Refusal) (place : ℕ) (reason : Why) → r.place ≡ place → r.why ≡ reason → stopped place reason ≡ Err r
refusal_is r place reason at is = ap (λ p. stopped p reason) (sym at) ∙ ap (λ w. stopped r.place w) (sym is)

pub item_is_read : (text : List ℕ) (r : Refusal) → ItemOffends text r → read_payload text ≡ Err r
item_is_read text r o =
    let is = begun_joined o.items o.before o.are o.begins in
    let lead = items_lead true [] (concat o.items) o.items o.before o.are is in
    let cases : (result : Result (List ℕ) Why) → joined true (concat o.items) o.bytes ≡ result → read_payload text ≡ Err r =
    elim [
      | Ok after ↦ λ e. absurd (o.offends (item_goes_on o.items o.before o.bytes o.item after o.are is o.is_item e))
      | Err reason ↦ λ e.
          let stops = item_stops (0 + length o.before) (concat o.items) o.bytes o.item o.rest reason (is_whole (concat o.items)) refl o.is_item e in
          let reads = read_leads true 0 nothing_open o.before (o.item ++ o.rest) (at_bytes (concat o.items)) lead ∙ stops in
          let reasons = why_one (concat o.items) o.bytes r.why reason o.why_is (item_why (concat o.items) o.bytes reason is e) in
          subst (λ t. read_payload t ≡ Err r) (sym o.spelled) (reads ∙ refusal_is r (0 + length o.before) reason (omega (arith, o.place_is)) reasons)
    ] in
    cases (joined true (concat o.items) o.bytes) refl

-- a text in which nothing offends stands somewhere
pub record StandsFor (before open_text : List ℕ) : Type 0 where
  pub front : Open
  pub stands : Stands before front
  pub empty : front.digit ≡ None → open_text ≡ []

-- no payload in form has a digit after a whole packet
pub digit_open : (start : List ℕ) (items : List (List ℕ)) (digit : ℕ) → AreItems items start → joined true [] (concat items) ≡ Ok (concat items)
    → BeginsForm (start ++ digit ∷ []) → (whole : Bool) → is_whole (concat items) ≡ whole → is_whole (concat items) ≡ false
digit_open start items digit are is begins true whole =
    let lead = items_lead false [] (concat items) items start are (joined_form [] (concat items) (concat items) is) in
    let stops = whole_stop false (at_bytes (concat items)) digit whole in
    let goes = subst (λ t. leads false nothing_open t (at_bytes (bytes_with begins.form.payload begins.form.checksum))) (append_assoc start (digit ∷ []) begins.more)
    (form_leads ((start ++ digit ∷ []) ++ begins.more) begins.form) in
    absurd (no_going_on false nothing_open (at_bytes (concat items)) start digit begins.more (at_bytes (bytes_with begins.form.payload begins.form.checksum))
    (record { back = 0; why = why.MccSyntax }) lead stops goes)
digit_open start items digit are is begins false open_yet = open_yet

pub digit_of : (digit : ℕ) (found : Option ℕ) → hex_value digit ≡ found → IsSome found → (high : ℕ) × (hex_value digit ≡ Some high)
digit_of digit (Some high) is some = (high, is)
digit_of digit None is some = absurd (cc)

pub stands_for : (before open_text : List ℕ) → (u : IsUnoffending before open_text) → IsOpenDigit open_text → StandsFor before open_text
stands_for before open_text u (inl empty) =
    let is = begun_joined u.items u.start u.are u.begins in
    let same : before ≡ u.start = u.spelled ∙ (ap (λ t. u.start ++ t) empty ∙ append-nil u.start) in
    record {
      front = at_bytes (concat u.items);
      stands = at_item u.items (concat u.items) (subst (λ t. AreItems u.items t) (sym same) u.are) is refl;
      empty = λ none. empty;
    }
stands_for before open_text u (inr (digit, some, one)) =
    let is = begun_joined u.items u.start u.are u.begins in
    let found = digit_of digit (hex_value digit) refl some in
    let same : before ≡ u.start ++ digit ∷ [] = u.spelled ∙ ap (λ t. u.start ++ t) one in
    let open_yet = digit_open u.start u.items digit u.are is (subst (λ t. BeginsForm t) same u.form) (is_whole (concat u.items)) refl in
    record {
      front = record { digit = Some found.0; bytes = concat u.items };
      stands = at_digit u.start u.items digit found.0 (concat u.items) same u.are is found.1 open_yet refl;
      empty = λ none. absurd (cc);
    }

-- a second digit is taken in form
pub digits_in_form : (before : List ℕ) (front : Open) (byte high low : ℕ) → Stands before front → front.digit ≡ Some high → hex_value byte ≡ Some low → BeginsForm (before ++ byte ∷ [])
digits_in_form before front byte high low (at_item items bytes are is at) open_is low_is =
    let none : front.digit ≡ None = ap (λ f. f.digit) at in
    absurd (cc)
digits_in_form before front byte high low (at_digit start items digit first bytes spelled are is first_is open_yet at) open_is low_is =
    let pair = 16 * first + low in
    let taken = open_taken bytes pair open_yet in
    let last : joined false bytes (pair ∷ []) ≡ Ok (bytes ++ pair ∷ []) = subst (λ r. joined_on r (Ok (bytes ++ pair ∷ [])) ≡ Ok (bytes ++ pair ∷ [])) (sym taken) refl in
    let all = joined_both false [] (concat items) bytes (pair ∷ []) (Ok (bytes ++ pair ∷ [])) (joined_form [] (concat items) bytes is) last in
    let one : AreItems ((pair ∷ []) ∷ []) (digit ∷ byte ∷ []) =
    (digit ∷ byte ∷ [], [], inl (record { high = digit; low = byte; first = first; second = low; spelled = refl; high_is = first_is; low_is = low_is; are = refl }), refl, refl) in
    let form = begins_form (items ++ (pair ∷ []) ∷ []) (start ++ digit ∷ byte ∷ []) (bytes ++ pair ∷ []) (items_both items ((pair ∷ []) ∷ []) start (digit ∷ byte ∷ []) are one)
    (subst (λ b. joined false [] b ≡ Ok (bytes ++ pair ∷ [])) (sym (concat_both items ((pair ∷ []) ∷ []))) all) in
    let texts : start ++ digit ∷ byte ∷ [] ≡ before ++ byte ∷ [] = sym (append_assoc start (digit ∷ []) (byte ∷ [])) ∙ ap (λ t. t ++ byte ∷ []) (sym spelled) in
    subst (λ t. BeginsForm t) texts form

-- the refusal of a byte is read
pub byte_stops : (before : List ℕ) (front : Open) (byte : ℕ) (text : List ℕ) (r : Refusal) → Stands before front → step true front byte ≡ no_item
    → r.place ≡ length before → r.why ≡ why.MccSyntax → read_payload (before ++ byte ∷ text) ≡ Err r
byte_stops before front byte text r stands stops at is =
    let lead = stands_lead true before front stands in
    read_leads true 0 nothing_open before (byte ∷ text) front lead
    ∙ (stop_on (0 + length before) 0 why.MccSyntax front byte text (length before) stops (omega arith) ∙ refusal_is r (length before) why.MccSyntax at is)

pub refused_read : (before : List ℕ) (front : Open) (byte : ℕ) (text : List ℕ) (r : Refusal) (open_text : List ℕ) (offence : Offence) → Stands before front → step true front byte ≡ Err offence
    → (front.digit ≡ None → letter_bytes byte ≡ None) → (BeginsForm (before ++ byte ∷ []) → ⊥) → r.place ≡ length before → r.why ≡ why.MccSyntax
    → Refuses front byte offence → read_payload (before ++ byte ∷ text) ≡ Err r
refused_read before front byte text r open_text offence stands stops no_letter offends at is (of_letter brought reason none letter_is wrong offence_is) =
    let nothing = no_letter none in
    absurd (cc)
refused_read before front byte text r open_text offence stands stops no_letter offends at is (of_digits high low reason open_is low_is wrong offence_is) =
    absurd (offends (digits_in_form before front byte high low stands open_is low_is))
refused_read before front byte text r open_text offence stands stops no_letter offends at is (of_byte none stop offence_is) =
    byte_stops before front byte text r stands (stops ∙ ap (λ o. Err o) offence_is) at is

pub byte_is_read : (text : List ℕ) (r : Refusal) → ByteOffends text r → read_payload text ≡ Err r
byte_is_read text r o =
    let st = stands_for o.before o.open_text o.unoffending o.unoffending.within in
    let cases : (result : Result Open Offence) → step true st.front o.byte ≡ result → read_payload (o.before ++ o.byte ∷ o.rest) ≡ Err r =
    elim [
      | Ok next ↦ λ e.
          let open_yet = (open_so (is_whole st.front.bytes) (stepped true st.front.digit st.front.bytes o.byte) next e).0 in
          let on = stands_on o.before st.front o.byte next st.stands open_yet (step_so true st.front o.byte next e) in
          absurd (o.offends (stands_unoffending (o.before ++ o.byte ∷ []) next on).form)
      | Err offence ↦ λ e.
          refused_read o.before st.front o.byte o.rest r o.open_text offence st.stands e (λ none. o.no_letter (st.empty none)) o.offends o.place_is o.why_is
          (refused_by st.front o.byte offence (is_whole st.front.bytes) refl (closed_of o.before st.front st.stands) e)
    ] in
    subst (λ t. read_payload t ≡ Err r) (sym o.spelled) (cases (step true st.front o.byte) refl)

-- whole items that are a packet are a payload in form
pub whole_is_form : (before : List ℕ) (front : Open) → Stands before front → is_whole front.bytes ≡ true → IsPayloadForm before
whole_is_form before front (at_item items bytes are is at) whole =
    let same : front.bytes ≡ bytes = ap (λ f. f.bytes) at in
    let packet = packet_so true (concat items) bytes is (subst (λ b. is_whole b ≡ true) same whole) in
    record { items = items; payload = packet.payload; checksum = packet.checksum; are = are; stand_for = packet.are }
whole_is_form before front (at_digit start items digit high bytes spelled are is digit_is open_yet at) whole =
    let same : front.bytes ≡ bytes = ap (λ f. f.bytes) at in
    absurd (both_ways (is_whole bytes) open_yet (subst (λ b. is_whole b ≡ true) same whole))

pub end_read : (front : Open) (place : ℕ) → is_whole front.bytes ≡ false → read_from true place front [] ≡ stopped place why.MccSyntax
end_read front place open_yet = rw open_yet refl

pub end_is_read : (text : List ℕ) (r : Refusal) → EndsEarly text r → read_payload text ≡ Err r
end_is_read text r o =
    let st = stands_for text o.open_text o.unoffending o.unoffending.within in
    let cases : (whole : Bool) → is_whole st.front.bytes ≡ whole → read_payload text ≡ Err r =
    elim [
      | true ↦ λ e. absurd (o.no_payload (whole_is_form text st.front st.stands e))
      | false ↦ λ e.
          subst (λ t. read_payload t ≡ Err r) (append-nil text)
          (read_leads true 0 nothing_open text [] st.front (stands_lead true text st.front st.stands)
          ∙ (end_read st.front (0 + length text) e ∙ refusal_is r (0 + length text) why.MccSyntax (omega (arith, o.place_is)) o.why_is))
    ] in
    cases (is_whole st.front.bytes) refl

-- so each first offence is the one that is read
pub offence_is_read : (text : List ℕ) (r : Refusal) → IsFirstOffence text r → read_payload text ≡ Err r
offence_is_read text r (inl item) = item_is_read text r item
offence_is_read text r (inr (inl byte)) = byte_is_read text r byte
offence_is_read text r (inr (inr end)) = end_is_read text r end

pub one_offence : (text : List ℕ) (one other : Refusal) → IsFirstOffence text one → IsFirstOffence text other → one ≡ other
one_offence text one other a b =
    let first = offence_is_read text one a in
    let second = offence_is_read text other b in
    cc
