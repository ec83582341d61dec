-- The first offence of a text.
use Rattle.std.proofs.Common.{◌≡◌, inl, inr, ℕ, ◌+◌, ◌-◌, ◌*◌, ◌%◌, ◌==◌, nat_lt, Bool, true, false, cond, List, [], ◌∷◌, ◌++◌, length, Option, Some, None, Result, Ok, Err, IsSome, refl, ap, sym, ◌∙◌, subst, arith, append_assoc, append-nil, length-append}
use Rattle.std.specs.List.{concat, sum}
use Rattle.std.proofs.lemmas.Grind.{common_steps}
use Rattle.cc_base.specs.declared.refusal.Refusal.{Refusal}
use Rattle.cc_base.specs.declared.why.Why.{Why}
use Rattle.cc_base.specs.declared.why.Why.TheVariants as why
use Rattle.hex_digits.specs.HexDigits.{hex_value}
use Rattle.mcc_files.specs.Items.{AreDigits, AreItems, IsItem}
use Rattle.mcc_files.specs.Letters.{letter_bytes}
use Rattle.mcc_files.specs.PayloadOffences.{BeginsForm, BeginsPayload, BringWrongSum, EndsEarly, IsFirstOffence, IsItemWhy, IsUnoffending, ItemOffends}
use Rattle.mcc_files.specs.Payloads.{IsPayloadForm, Payload, bytes_with, checksum_byte, payload_bytes}
use Rattle.mcc_files.specs.PayloadReading.{Open, behind, is_whole, item_begins, item_ends, joined, joined_on, no_item, nothing_open, read_from, read_payload, second_digit, step, stepped, why_of_byte}
use Rattle.mcc_files.specs.declared.payload_reader.Offence.{Offence}
use Rattle.mcc_files.proofs.CompleteLemmas.{begins_digit, begins_form, begins_payload, items_both, concat_both, joined_form}
use Rattle.mcc_files.proofs.LetterLemmas.{known, known_has_byte, no_letter_is_digit}
use Rattle.mcc_files.proofs.PacketLemmas.{checksum_is_sum, packet_whole}
use Rattle.mcc_files.proofs.ReadLemmas.{items_lead, under_leads}
use Rattle.mcc_files.proofs.SoundLemmas.{Takes, as_letter, as_first, as_second, ends_here, open_so, packet_so, step_so}
use Rattle.mcc_files.proofs.StepLemmas.{at_bytes, joined_both, joined_is, leads, leads_both}

-- no text can continue with a byte at which the reading stops
pub no_going_on : (judging : Bool) (start front : Open) (before : List ℕ) (byte : ℕ) (more : List ℕ) (to : Open) (offence : Offence)
    → leads judging start before front → step judging front byte ≡ Err offence → leads judging start (before ++ byte ∷ more) to → ⊥
no_going_on judging start front [] byte more to offence lead stops goes =
    let one : step judging start byte ≡ Ok goes.0 = goes.1 in
    let other : step judging start byte ≡ Err offence = subst (λ f. step judging f byte ≡ Err offence) (sym lead) stops in
    cc
no_going_on judging start front (x ∷ before) byte more to offence lead stops goes =
    let one : step judging start x ≡ Ok goes.0 = goes.1 in
    let other : step judging start x ≡ Ok lead.0 = lead.1 in
    let same : goes.0 ≡ lead.0 = cc in
    no_going_on judging lead.0 front before byte more to offence lead.2 stops (subst (λ f. leads judging f (before ++ byte ∷ more) to) same goes.2)

-- a text leads to one front
pub leads_one : (judging : Bool) (start : Open) (text : List ℕ) (front other : Open) → leads judging start text front → leads judging start text other → front ≡ other
leads_one judging start [] front other lead goes = sym lead ∙ goes
leads_one judging start (x ∷ text) front other lead goes =
    let one : step judging start x ≡ Ok lead.0 = lead.1 in
    let two : step judging start x ≡ Ok goes.0 = goes.1 in
    let same : goes.0 ≡ lead.0 = cc in
    leads_one judging lead.0 text front other lead.2 (subst (λ f. leads judging f text other) same goes.2)

-- a payload that begins with a text is led to
pub payload_leads : (text : List ℕ) (byte : ℕ) → BeginsPayload (text ++ byte ∷ []) → (more : List ℕ) × (to : Open) × leads true nothing_open (text ++ byte ∷ more) to
payload_leads text byte begins =
    let is = begins.is in
    let lead = under_leads true begins.payload (checksum_byte begins.payload) ((text ++ byte ∷ []) ++ begins.more)
    (record { items = is.items; are = is.are; stand_for = is.stand_for; right = λ on. refl }) in
    (begins.more, at_bytes (payload_bytes begins.payload), subst (λ t. leads true nothing_open t (at_bytes (payload_bytes begins.payload))) (append_assoc text (byte ∷ []) begins.more) lead)

pub form_leads : (text : List ℕ) → (form : IsPayloadForm text) → leads false nothing_open text (at_bytes (bytes_with form.payload form.checksum))
form_leads text form =
    under_leads false form.payload form.checksum text (record { items = form.items; are = form.are; stand_for = form.stand_for; right = λ on. absurd (cc) })

-- how the text stands that was read: at an item's end, or after a first digit
pub data Stands (before : List ℕ) (front : Open) : Type 0 where
  at_item : (items : List (List ℕ)) (bytes : List ℕ) → AreItems items before → joined true [] (concat items) ≡ Ok bytes → front ≡ at_bytes bytes → Stands before front
  at_digit : (start : List ℕ) (items : List (List ℕ)) (digit high : ℕ) (bytes : List ℕ) → before ≡ start ++ digit ∷ [] → AreItems items start
      → joined true [] (concat items) ≡ Ok bytes → hex_value digit ≡ Some high → is_whole bytes ≡ false → front ≡ record { digit = Some high; bytes = bytes }
      → Stands before front

-- it leads there, in form too
pub digit_step : (judging : Bool) (bytes : List ℕ) (digit high : ℕ) → hex_value digit ≡ Some high → is_whole bytes ≡ false
    → step judging (at_bytes bytes) digit ≡ Ok (record { digit = Some high; bytes = bytes })
digit_step judging bytes digit high is open_yet =
    let no_letter = no_letter_is_digit digit high is in
    rw (open_yet, no_letter, is) refl

pub joined_under : (judging : Bool) (items : List (List ℕ)) (bytes : List ℕ) → joined true [] (concat items) ≡ Ok bytes → joined judging [] (concat items) ≡ Ok bytes
joined_under true items bytes is = is
joined_under false items bytes is = joined_form [] (concat items) bytes is

pub stands_lead : (judging : Bool) (before : List ℕ) (front : Open) → Stands before front → leads judging nothing_open before front
stands_lead judging before front (at_item items bytes are is at) =
    subst (λ f. leads judging nothing_open before f) (sym at) (items_lead judging [] bytes items before are (joined_under judging items bytes is))
stands_lead judging before front (at_digit start items digit high bytes spelled are is digit_is open_yet at) =
    let first = items_lead judging [] bytes items start are (joined_under judging items bytes is) in
    let to : Open = record { digit = Some high; bytes = bytes } in
    let both = leads_both judging nothing_open start (digit ∷ []) (at_bytes bytes) to first (to, digit_step judging bytes digit high digit_is open_yet, refl) in
    subst (λ t. leads judging nothing_open t front) (sym spelled) (subst (λ f. leads judging nothing_open (start ++ digit ∷ []) f) (sym at) both)

pub some_digit : (found : Option ℕ) (high : ℕ) → found ≡ Some high → IsSome found
some_digit found high is = subst (λ f. IsSome f) (sym is) refl

-- nothing offends in it
pub open_text_of : (before : List ℕ) (front : Open) → Stands before front → List ℕ
open_text_of before front (at_item items bytes are is at) = []
open_text_of before front (at_digit start items digit high bytes spelled are is digit_is open_yet at) = digit ∷ []

pub stands_unoffending : (before : List ℕ) (front : Open) (stands : Stands before front) → IsUnoffending before (open_text_of before front stands)
unfolding open_text_of
stands_unoffending before front (at_item items bytes are is at) = record {
  start = before;
  items = items;
  spelled = sym (append-nil before);
  are = are;
  within = inl refl;
  begins = begins_payload items before bytes are is;
  form = begins_form items before bytes are (joined_form [] (concat items) bytes is);
}
stands_unoffending before front (at_digit start items digit high bytes spelled are is digit_is open_yet at) = record {
  start = start;
  items = items;
  spelled = spelled;
  are = are;
  within = inr (digit, some_digit (hex_value digit) high digit_is, refl);
  begins = begins_payload items start bytes are is;
  form = subst (λ t. BeginsForm t) (sym spelled) (begins_digit items start bytes digit high are is digit_is open_yet);
}

-- an item more
pub stands_item : (start : List ℕ) (items : List (List ℕ)) (bytes brought after item : List ℕ) → AreItems items start → joined true [] (concat items) ≡ Ok bytes
    → IsItem brought item → joined true bytes brought ≡ Ok after → Stands (start ++ item) (at_bytes after)
stands_item start items bytes brought after item are is one join =
    let single : AreItems (brought ∷ []) item = (item, [], one, refl, sym (append-nil item)) in
    let joins = joined_both true [] (concat items) bytes brought (Ok after) is join in
    let all : joined true [] (concat (items ++ brought ∷ [])) ≡ Ok after =
    subst (λ b. joined true [] b ≡ Ok after) (sym (concat_both items (brought ∷ []) ∙ ap (λ b. concat items ++ b) (append-nil brought))) joins in
    at_item (items ++ brought ∷ []) after (items_both items (brought ∷ []) start item are single) all refl

pub front_is : (front : Open) → front.digit ≡ None → front ≡ at_bytes front.bytes
front_is front none = ap (λ d. record { digit = d; bytes = front.bytes }) none

pub stands_on : (before : List ℕ) (front : Open) (byte : ℕ) (next : Open) → Stands before front → is_whole front.bytes ≡ false → Takes true front byte next
    → Stands (before ++ byte ∷ []) next
stands_on before front byte next (at_item items bytes are is at) open_yet (as_letter brought none letter_is join ended) =
    let same : front.bytes ≡ bytes = ap (λ f. f.bytes) at in
    subst (λ f. Stands (before ++ byte ∷ []) f) (sym (front_is next ended))
    (stands_item before items bytes brought next.bytes (byte ∷ []) are is (inr (record { letter = byte; spelled = refl; is = letter_is }))
    (subst (λ b. joined true b brought ≡ Ok next.bytes) same join))
stands_on before front byte next (at_item items bytes are is at) open_yet (as_first high none digit_is to) =
    let same : front.bytes ≡ bytes = ap (λ f. f.bytes) at in
    at_digit before items byte high bytes refl are is digit_is (subst (λ b. is_whole b ≡ false) same open_yet) (to ∙ ap (λ b. record { digit = Some high; bytes = b }) same)
stands_on before front byte next (at_item items bytes are is at) open_yet (as_second high low open_is digit_is join ended) =
    let none : front.digit ≡ None = ap (λ f. f.digit) at in
    absurd (cc)
stands_on before front byte next (at_digit start items digit first bytes spelled are is first_is yet at) open_yet (as_letter brought none letter_is join ended) =
    let some : front.digit ≡ Some first = ap (λ f. f.digit) at in
    absurd (cc)
stands_on before front byte next (at_digit start items digit first bytes spelled are is first_is yet at) open_yet (as_first high none digit_is to) =
    let some : front.digit ≡ Some first = ap (λ f. f.digit) at in
    absurd (cc)
stands_on before front byte next (at_digit start items digit first bytes spelled are is first_is yet at) open_yet (as_second high low open_is digit_is join ended) =
    let some : front.digit ≡ Some first = ap (λ f. f.digit) at in
    let highs : first ≡ high = cc in
    let same : front.bytes ≡ bytes = ap (λ f. f.bytes) at in
    let two : AreDigits ((16 * high + low) ∷ []) (digit ∷ byte ∷ []) =
    record { high = digit; low = byte; first = high; second = low; spelled = refl; high_is = first_is ∙ ap (λ h. Some h) highs; low_is = digit_is; are = refl } in
    let stands = stands_item start items bytes ((16 * high + low) ∷ []) next.bytes (digit ∷ byte ∷ []) are is (inl two)
    (subst (λ b. joined true b ((16 * high + low) ∷ []) ≡ Ok next.bytes) same join) in
    let texts : start ++ digit ∷ byte ∷ [] ≡ before ++ byte ∷ [] = sym (append_assoc start (digit ∷ []) (byte ∷ [])) ∙ ap (λ t. t ++ byte ∷ []) (sym spelled) in
    subst (λ f. Stands (before ++ byte ∷ []) f) (sym (front_is next ended)) (subst (λ t. Stands t (at_bytes next.bytes)) texts stands)

-- how a byte is refused
pub data Refuses (front : Open) (byte : ℕ) (offence : Offence) : Type 0 where
  of_letter : (brought : List ℕ) (reason : Why) → front.digit ≡ None → letter_bytes byte ≡ Some brought → joined true front.bytes brought ≡ Err reason
      → offence ≡ record { back = 0; why = reason } → Refuses front byte offence
  of_digits : (high low : ℕ) (reason : Why) → front.digit ≡ Some high → hex_value byte ≡ Some low → joined true front.bytes ((16 * high + low) ∷ []) ≡ Err reason
      → offence ≡ record { back = 1; why = reason } → Refuses front byte offence
  of_byte : (front.digit ≡ None → letter_bytes byte ≡ None) → step false front byte ≡ no_item → offence ≡ record { back = 0; why = why.MccSyntax }
      → Refuses front byte offence

pub wrong_ends : (back : ℕ) (result : Result (List ℕ) Why) (offence : Offence) → item_ends back result ≡ Err offence
    → (reason : Why) × (result ≡ Err reason) × (offence ≡ record { back = back; why = reason })
wrong_ends back (Ok bytes) offence is = absurd (cc)
wrong_ends back (Err reason) offence is = (reason, refl, cc)

-- nothing is joined after a whole packet
pub whole_refuses : (bytes : List ℕ) (byte : ℕ) → is_whole bytes ≡ true → why_of_byte true bytes byte ≡ Some why.MccSyntax
whole_refuses [] byte whole = absurd (cc)
whole_refuses (did ∷ []) byte whole = absurd (cc)
whole_refuses (did ∷ sdid ∷ []) byte whole = absurd (cc)
whole_refuses (did ∷ sdid ∷ count ∷ rest) byte whole = grind (arith, common_steps)

pub letter_refused : (bytes brought : List ℕ) (byte : ℕ) → letter_bytes byte ≡ Some brought → is_whole bytes ≡ true → joined true bytes brought ≡ Err why.MccSyntax
letter_refused bytes brought byte letter_is whole =
    let has = known_has_byte byte brought (known byte brought letter_is) in
    let refused = whole_refuses bytes has.0 whole in
    subst (λ b. joined true bytes b ≡ Err why.MccSyntax) (sym has.2)
    (subst (λ r. joined_on r (joined true (bytes ++ has.0 ∷ []) has.1) ≡ Err why.MccSyntax) (sym refused) refl)

pub whole_stop : (judging : Bool) (front : Open) (byte : ℕ) → is_whole front.bytes ≡ true → step judging front byte ≡ no_item
whole_stop judging front byte whole = rw whole refl

-- after a whole packet
pub refused_whole : (front : Open) (byte : ℕ) (offence : Offence) (found : Option (List ℕ)) → letter_bytes byte ≡ found → front.digit ≡ None → is_whole front.bytes ≡ true
    → no_item ≡ Err offence → Refuses front byte offence
refused_whole front byte offence (Some brought) letter_is none whole is =
    of_letter brought why.MccSyntax none letter_is (letter_refused front.bytes brought byte letter_is whole) (cc)
refused_whole front byte offence None letter_is none whole is = of_byte (λ n. letter_is) (whole_stop false front byte whole) (cc)

-- where an item begins
pub refused_begins : (bytes : List ℕ) (byte : ℕ) (found : Option (List ℕ)) (digit : Option ℕ) (offence : Offence) → letter_bytes byte ≡ found → hex_value byte ≡ digit
    → is_whole bytes ≡ false → item_begins true bytes found digit ≡ Err offence → Refuses (at_bytes bytes) byte offence
refused_begins bytes byte (Some brought) digit offence letter_is digit_is open_yet is =
    let wrong = wrong_ends 0 (joined true bytes brought) offence is in
    of_letter brought wrong.0 refl letter_is wrong.1 wrong.2
refused_begins bytes byte None (Some high) offence letter_is digit_is open_yet is = absurd (cc)
refused_begins bytes byte None None offence letter_is digit_is open_yet is =
    of_byte (λ n. letter_is) (rw (open_yet, letter_is, digit_is) refl) (cc)

-- and where a second digit is wanted
pub refused_second : (bytes : List ℕ) (byte high : ℕ) (digit : Option ℕ) (offence : Offence) → hex_value byte ≡ digit → is_whole bytes ≡ false
    → second_digit true bytes high digit ≡ Err offence → Refuses (record { digit = Some high; bytes = bytes }) byte offence
refused_second bytes byte high (Some low) offence digit_is open_yet is =
    let wrong = wrong_ends 1 (joined true bytes ((16 * high + low) ∷ [])) offence is in
    of_digits high low wrong.0 refl digit_is wrong.1 wrong.2
refused_second bytes byte high None offence digit_is open_yet is =
    of_byte (λ n. absurd (cc)) (rw (open_yet, digit_is) refl) (cc)

pub refused_open : (digit : Option ℕ) (bytes : List ℕ) (byte : ℕ) (offence : Offence) → is_whole bytes ≡ false → stepped true digit bytes byte ≡ Err offence
    → Refuses (record { digit = digit; bytes = bytes }) byte offence
refused_open None bytes byte offence open_yet is = refused_begins bytes byte (letter_bytes byte) (hex_value byte) offence refl refl open_yet is
refused_open (Some high) bytes byte offence open_yet is = refused_second bytes byte high (hex_value byte) offence refl open_yet is

pub refused_by : (front : Open) (byte : ℕ) (offence : Offence) (whole : Bool) → is_whole front.bytes ≡ whole → (whole ≡ true → front.digit ≡ None)
    → cond whole no_item (stepped true front.digit front.bytes byte) ≡ Err offence → Refuses front byte offence
refused_by front byte offence true whole closed is = refused_whole front byte offence (letter_bytes byte) refl (closed refl) whole is
refused_by front byte offence false whole closed is = refused_open front.digit front.bytes byte offence whole is

-- lists that agree after as many items agree there
pub same_front : (xs ys : List ℕ) (a b : ℕ) (back behind : List ℕ) → length xs ≡ length ys → xs ++ a ∷ back ≡ ys ++ b ∷ behind → (xs ≡ ys) × (a ≡ b)
same_front [] [] a b back behind long same = (refl, cc)
same_front [] (y ∷ ys) a b back behind long same = absurd (omega (arith, long))
same_front (x ∷ xs) [] a b back behind long same = absurd (omega (arith, long))
same_front (x ∷ xs) (y ∷ ys) a b back behind long same =
    let firsts : x ≡ y = cc in
    let tails : xs ++ a ∷ back ≡ ys ++ b ∷ behind = cc in
    let below = same_front xs ys a b back behind (omega (arith, long)) tails in
    ((ap (λ h. h ∷ xs) firsts ∙ ap (λ r. y ∷ r) below.0), below.1)

abbrev pub payload_at : ℕ → ℕ → List ℕ → Payload
payload_at did sdid user = record { did = did; sdid = sdid; user = user }

pub same_payload : (did d sdid s : ℕ) (user u : List ℕ) → did ≡ d → sdid ≡ s → user ≡ u
    → payload_at did sdid user ≡ payload_at d s u
same_payload did d sdid s user u dids sdids users = rw (dids, sdids, users) refl

-- bytes are one packet's bytes
pub one_packet : (p q : Payload) (c d : ℕ) (x y : List ℕ) → bytes_with p c ++ x ≡ bytes_with q d ++ y → (p ≡ q) × (c ≡ d)
one_packet p q c d x y same =
    let dids : p.did ≡ q.did = cc in
    let sdids : p.sdid ≡ q.sdid = cc in
    let counts : length p.user ≡ length q.user = cc in
    let tails : (p.user ++ c ∷ []) ++ x ≡ (q.user ++ d ∷ []) ++ y = cc in
    let both = same_front p.user q.user c d x y counts (sym (append_assoc p.user (c ∷ []) x) ∙ (tails ∙ append_assoc q.user (d ∷ []) y)) in
    (same_payload p.did q.did p.sdid q.sdid p.user q.user dids sdids both.0, both.1)

pub inner_why : (other reason : Why) (rest : Result (List ℕ) Why) → joined_on (Some other) rest ≡ Err reason → other ≡ reason
inner_why other reason rest is = cc

-- the first of the bytes of an item that offends
pub record FirstWrong (before bytes : List ℕ) (reason : Why) : Type 0 where
  pub middle : List ℕ
  pub byte : ℕ
  pub rest : List ℕ
  pub spelled : before ++ bytes ≡ middle ++ byte ∷ rest
  pub join : joined true [] middle ≡ Ok middle
  pub wrong : why_of_byte true middle byte ≡ Some reason

pub first_wrong : (before bytes : List ℕ) (reason : Why) → joined true [] before ≡ Ok before → joined true before bytes ≡ Err reason → FirstWrong before bytes reason
first_wrong before [] reason join is = absurd (cc)
first_wrong before (byte ∷ bytes) reason join is =
    let cases : (found : Option Why) → why_of_byte true before byte ≡ found → FirstWrong before (byte ∷ bytes) reason =
    elim [
      | Some other ↦ λ e.
          let same : other ≡ reason = inner_why other reason (joined true (before ++ byte ∷ []) bytes) (subst (λ r. joined_on r (joined true (before ++ byte ∷ []) bytes) ≡ Err reason) e is) in
          record { middle = before; byte = byte; rest = bytes; spelled = refl; join = join; wrong = e ∙ ap (λ r. Some r) same }
      | None ↦ λ e.
          let rest_is : joined true (before ++ byte ∷ []) bytes ≡ Err reason = subst (λ r. joined_on r (joined true (before ++ byte ∷ []) bytes) ≡ Err reason) e is in
          let one : joined true before (byte ∷ []) ≡ Ok (before ++ byte ∷ []) = subst (λ r. joined_on r (Ok (before ++ byte ∷ [])) ≡ Ok (before ++ byte ∷ [])) (sym e) refl in
          let more = joined_both true [] before before (byte ∷ []) (Ok (before ++ byte ∷ [])) join one in
          let below = first_wrong (before ++ byte ∷ []) bytes reason more rest_is in
          record {
            middle = below.middle;
            byte = below.byte;
            rest = below.rest;
            spelled = sym (append_assoc before (byte ∷ []) bytes) ∙ below.spelled;
            join = below.join;
            wrong = below.wrong;
          }
    ] in
    cases (why_of_byte true before byte) refl

pub equal_counts : (count long : ℕ) → nat_lt long count ≡ false → nat_lt count long ≡ false → count ≡ long
equal_counts count long one other = grind (arith, common_steps)

pub unequal : (byte right : ℕ) → (byte == right) ≡ false → byte ≡ right → ⊥
unequal byte right test same = grind (arith, common_steps)

-- why it offends
pub data WrongAt (middle : List ℕ) (byte : ℕ) (reason : Why) : Type 0 where
  too_many : is_whole middle ≡ true → reason ≡ why.MccSyntax → WrongAt middle byte reason
  wrong_sum : (payload : Payload) → middle ≡ payload.did ∷ payload.sdid ∷ length payload.user ∷ payload.user → (byte ≡ checksum_byte payload → ⊥) → reason ≡ why.AncSum
      → WrongAt middle byte reason

pub wrong_by : (did sdid count : ℕ) (rest : List ℕ) (byte : ℕ) (reason : Why) (fewer more right : Bool) → nat_lt (length rest) count ≡ fewer → nat_lt count (length rest) ≡ more
    → (byte == sum (did ∷ sdid ∷ count ∷ rest) % 256) ≡ right
    → cond fewer None (cond more (Some why.MccSyntax) (cond right None (Some why.AncSum))) ≡ Some reason → WrongAt (did ∷ sdid ∷ count ∷ rest) byte reason
wrong_by did sdid count rest byte reason true more right fewer_is more_is right_is is = absurd (cc)
wrong_by did sdid count rest byte reason false true right fewer_is more_is right_is is = too_many more_is (cc)
wrong_by did sdid count rest byte reason false false true fewer_is more_is right_is is = absurd (cc)
wrong_by did sdid count rest byte reason false false false fewer_is more_is right_is is =
    let long : count ≡ length rest = equal_counts count (length rest) fewer_is more_is in
    let payload : Payload = record { did = did; sdid = sdid; user = rest } in
    wrong_sum payload (ap (λ n. did ∷ sdid ∷ n ∷ rest) long)
    (λ same. unequal byte (sum (did ∷ sdid ∷ count ∷ rest) % 256) right_is (same ∙ (checksum_is_sum payload ∙ ap (λ n. sum (did ∷ sdid ∷ n ∷ rest) % 256) (sym long)))) (cc)

pub wrong_at : (middle : List ℕ) (byte : ℕ) (reason : Why) → why_of_byte true middle byte ≡ Some reason → WrongAt middle byte reason
wrong_at [] byte reason is = absurd (cc)
wrong_at (did ∷ []) byte reason is = absurd (cc)
wrong_at (did ∷ sdid ∷ []) byte reason is = absurd (cc)
wrong_at (did ∷ sdid ∷ count ∷ rest) byte reason is =
    wrong_by did sdid count rest byte reason (nat_lt (length rest) count) (nat_lt count (length rest)) (byte == sum (did ∷ sdid ∷ count ∷ rest) % 256) refl refl refl is

pub item_why_at : (before bytes : List ℕ) (reason : Why) (first : FirstWrong before bytes reason) → WrongAt first.middle first.byte reason → IsItemWhy before bytes reason
item_why_at before bytes reason first (wrong_sum payload middle_is differs reason_is) =
    inl (
      record {
        payload = payload;
        checksum = first.byte;
        more = first.rest;
        spelled = first.spelled ∙ (ap (λ m. m ++ first.byte ∷ first.rest) middle_is
            ∙ ap (λ r. payload.did ∷ payload.sdid ∷ length payload.user ∷ r) (sym (append_assoc payload.user (first.byte ∷ []) first.rest)));
        wrong = differs;
      },
      reason_is,
    )
item_why_at before bytes reason first (too_many whole reason_is) =
    let packet = packet_so true first.middle first.middle first.join whole in
    inr (
      λ (wrong : BringWrongSum before bytes).
          let same : bytes_with packet.payload packet.checksum ++ first.byte ∷ first.rest ≡ bytes_with wrong.payload wrong.checksum ++ wrong.more =
          ap (λ m. m ++ first.byte ∷ first.rest) (sym packet.are) ∙ (sym first.spelled ∙ wrong.spelled) in
          let one = one_packet packet.payload wrong.payload packet.checksum wrong.checksum (first.byte ∷ first.rest) wrong.more same in
          wrong.wrong (sym one.1 ∙ (packet.right refl ∙ ap (λ p. checksum_byte p) one.0)),
      reason_is,
    )

-- the reason where an item offends
pub item_why : (before bytes : List ℕ) (reason : Why) → joined true [] before ≡ Ok before → joined true before bytes ≡ Err reason → IsItemWhy before bytes reason
item_why before bytes reason join is =
    let first = first_wrong before bytes reason join is in
    item_why_at before bytes reason first (wrong_at first.middle first.byte reason first.wrong)

pub both_ways : (b : Bool) → b ≡ false → b ≡ true → ⊥
both_ways b one other = cc

-- a whole packet stands at an item's end
pub closed_of : (before : List ℕ) (front : Open) → Stands before front → is_whole front.bytes ≡ true → front.digit ≡ None
closed_of before front (at_item items bytes are is at) whole = ap (λ f. f.digit) at
closed_of before front (at_digit start items digit high bytes spelled are is digit_is open_yet at) whole =
    let same : front.bytes ≡ bytes = ap (λ f. f.bytes) at in
    absurd (both_ways (is_whole bytes) open_yet (subst (λ b. is_whole b ≡ true) same whole))

-- what offends there, at this place
abbrev pub refusal_at : ℕ → Offence → Refusal
refusal_at place offence = record { place = place - offence.back; why = offence.why }

-- an item offends after items
pub item_offends : (text before rest item brought : List ℕ) (items : List (List ℕ)) (bytes : List ℕ) (reason : Why) (place : ℕ) → text ≡ before ++ (item ++ rest)
    → AreItems items before → joined true [] (concat items) ≡ Ok bytes → IsItem brought item → joined true bytes brought ≡ Err reason
    → (BeginsPayload (before ++ item) → ⊥) → place ≡ length before → ItemOffends text (record { place = place; why = reason })
item_offends text before rest item brought items bytes reason place spelled are is is_item wrong offends at =
    let same = joined_is true [] (concat items) bytes is in
    record {
      before = before;
      items = items;
      item = item;
      bytes = brought;
      rest = rest;
      spelled = spelled;
      are = are;
      is_item = is_item;
      begins = begins_payload items before bytes are is;
      offends = offends;
      place_is = at;
      why_is = item_why (concat items) brought reason (is ∙ ap (λ b. Ok b) same) (subst (λ b. joined true b brought ≡ Err reason) same wrong);
    }

-- no payload can continue with a byte at which the reading stops
pub no_payload_on : (before : List ℕ) (front : Open) (byte : ℕ) (offence : Offence) → Stands before front → step true front byte ≡ Err offence → BeginsPayload (before ++ byte ∷ []) → ⊥
no_payload_on before front byte offence stands stops begins =
    let lead = payload_leads before byte begins in
    no_going_on true nothing_open front before byte lead.0 lead.1 offence (stands_lead true before front stands) stops lead.2

pub no_form_on : (before : List ℕ) (front : Open) (byte : ℕ) (offence : Offence) → Stands before front → step false front byte ≡ Err offence → BeginsForm (before ++ byte ∷ []) → ⊥
no_form_on before front byte offence stands stops begins =
    let lead = subst (λ t. leads false nothing_open t (at_bytes (bytes_with begins.form.payload begins.form.checksum))) (append_assoc before (byte ∷ []) begins.more)
    (form_leads ((before ++ byte ∷ []) ++ begins.more) begins.form) in
    no_going_on false nothing_open front before byte begins.more (at_bytes (bytes_with begins.form.payload begins.form.checksum)) offence (stands_lead false before front stands) stops lead

-- where nothing is open no digit is
pub no_digit_of : (before : List ℕ) (front : Open) (stands : Stands before front) → open_text_of before front stands ≡ [] → front.digit ≡ None
unfolding open_text_of
no_digit_of before front (at_item items bytes are is at) empty = ap (λ f. f.digit) at
no_digit_of before front (at_digit start items digit high bytes spelled are is digit_is open_yet at) empty = absurd (cc)

-- a refused byte is an offence
pub byte_refused : (before : List ℕ) (front : Open) (byte : ℕ) (text : List ℕ) (place : ℕ) (offence : Offence) → Stands before front → place ≡ length before
    → step true front byte ≡ Err offence → Refuses front byte offence → IsFirstOffence (before ++ byte ∷ text) (refusal_at place offence)
byte_refused before front byte text place offence (at_item items bytes are is at) long stops (of_letter brought reason none letter_is wrong offence_is) =
    let same : front.bytes ≡ bytes = ap (λ f. f.bytes) at in
    let joins = subst (λ b. joined true b brought ≡ Err reason) same wrong in
    let offends = no_payload_on before front byte offence (at_item items bytes are is at) stops in
    subst (λ o. IsFirstOffence (before ++ byte ∷ text) (refusal_at place o)) (sym offence_is)
    (inl (item_offends (before ++ byte ∷ text) before text (byte ∷ []) brought items bytes reason (place - 0) refl are is (inr (record { letter = byte; spelled = refl; is = letter_is }))
    joins offends (omega (arith, long))))
byte_refused before front byte text place offence (at_item items bytes are is at) long stops (of_digits high low reason open_is digit_is wrong offence_is) =
    let none : front.digit ≡ None = ap (λ f. f.digit) at in
    absurd (cc)
byte_refused before front byte text place offence (at_digit start items digit first bytes spelled are is first_is yet at) long stops (of_letter brought reason none letter_is wrong offence_is) =
    let some : front.digit ≡ Some first = ap (λ f. f.digit) at in
    absurd (cc)
byte_refused before front byte text place offence (at_digit start items digit first bytes spelled are is first_is yet at) long stops (of_digits high low reason open_is digit_is wrong offence_is) =
    let some : front.digit ≡ Some first = ap (λ f. f.digit) at in
    let highs : first ≡ high = cc in
    let same : front.bytes ≡ bytes = ap (λ f. f.bytes) at in
    let joins = subst (λ b. joined true b ((16 * high + low) ∷ []) ≡ Err reason) same wrong in
    let texts : before ++ byte ∷ text ≡ start ++ digit ∷ byte ∷ text = ap (λ t. t ++ byte ∷ text) spelled ∙ append_assoc start (digit ∷ []) (byte ∷ text) in
    let fronts : start ++ digit ∷ byte ∷ [] ≡ before ++ byte ∷ [] = sym (append_assoc start (digit ∷ []) (byte ∷ [])) ∙ ap (λ t. t ++ byte ∷ []) (sym spelled) in
    let offends = no_payload_on before front byte offence (at_digit start items digit first bytes spelled are is first_is yet at) stops in
    let two : AreDigits ((16 * high + low) ∷ []) (digit ∷ byte ∷ []) =
    record { high = digit; low = byte; first = high; second = low; spelled = refl; high_is = first_is ∙ ap (λ h. Some h) highs; low_is = digit_is; are = refl } in
    let size : length before ≡ length start + 1 = ap (λ t. length t) spelled ∙ length-append start (digit ∷ []) in
    subst (λ o. IsFirstOffence (before ++ byte ∷ text) (refusal_at place o)) (sym offence_is)
    (inl (item_offends (before ++ byte ∷ text) start text (digit ∷ byte ∷ []) ((16 * high + low) ∷ []) items bytes reason (place - 1) texts are is (inl two) joins
    (λ begins. offends (subst (λ t. BeginsPayload t) fronts begins)) (omega (arith, long, size))))
byte_refused before front byte text place offence stands long stops (of_byte no_letter stop offence_is) =
    subst (λ o. IsFirstOffence (before ++ byte ∷ text) (refusal_at place o)) (sym offence_is)
    (inr
    (inl
    (record {
      before = before;
      open_text = open_text_of before front stands;
      byte = byte;
      rest = text;
      spelled = refl;
      unoffending = stands_unoffending before front stands;
      no_letter = λ empty. no_letter (no_digit_of before front stands empty);
      offends = no_form_on before front byte (record { back = 0; why = why.MccSyntax }) stands stop;
      place_is = omega (arith, long);
      why_is = refl;
    })))

-- the text's end
pub ended_early : (before : List ℕ) (front : Open) (place : ℕ) → Stands before front → place ≡ length before → is_whole front.bytes ≡ false
    → EndsEarly before (record { place = place; why = why.MccSyntax })
ended_early before front place stands long open_yet = record {
  open_text = open_text_of before front stands;
  unoffending = stands_unoffending before front stands;
  no_payload = λ (form : IsPayloadForm before).
      let same = leads_one false nothing_open before front (at_bytes (bytes_with form.payload form.checksum)) (stands_lead false before front stands) (form_leads before form) in
      both_ways (is_whole front.bytes) open_yet (subst (λ f. is_whole f.bytes ≡ true) (sym same) (packet_whole form.payload form.checksum));
  place_is = long;
  why_is = refl;
}

pub ended_wrong : (whole : Bool) (bytes : List ℕ) (place : ℕ) (r : Refusal) → cond whole (Ok bytes) (ends_here place) ≡ Err r
    → (whole ≡ false) × (r ≡ record { place = place; why = why.MccSyntax })
ended_wrong true bytes place r is = absurd (cc)
ended_wrong false bytes place r is = (refl, cc)

-- what is read on, or where it stops
pub first_on : (one : Result Open Offence) (before : List ℕ) (front : Open) (byte : ℕ) (text : List ℕ) (place : ℕ) (r : Refusal) → Stands before front → place ≡ length before
    → step true front byte ≡ one
    → ((next : Open) → Stands (before ++ byte ∷ []) next → read_from true (place + 1) next text ≡ Err r → IsFirstOffence ((before ++ byte ∷ []) ++ text) r)
    → behind place one (λ next. read_from true (place + 1) next text) ≡ Err r → IsFirstOffence (before ++ byte ∷ text) r
first_on (Ok next) before front byte text place r stands long one rest is =
    let open_yet = (open_so (is_whole front.bytes) (stepped true front.digit front.bytes byte) next one).0 in
    subst (λ t. IsFirstOffence t r) (append_assoc before (byte ∷ []) text) (rest next (stands_on before front byte next stands open_yet (step_so true front byte next one)) is)
first_on (Err offence) before front byte text place r stands long one rest is =
    let refused = refused_by front byte offence (is_whole front.bytes) refl (closed_of before front stands) one in
    let same : refusal_at place offence ≡ r = cc in
    subst (λ x. IsFirstOffence (before ++ byte ∷ text) x) same (byte_refused before front byte text place offence stands long one refused)

pub first_from : (text : List ℕ) (place : ℕ) (front : Open) (before : List ℕ) (r : Refusal) → Stands before front → place ≡ length before
    → read_from true place front text ≡ Err r → IsFirstOffence (before ++ text) r
first_from [] place front before r stands long is =
    let ends = ended_wrong (is_whole front.bytes) front.bytes place r is in
    subst (λ t. IsFirstOffence t r) (sym (append-nil before))
    (inr (inr (subst (λ x. EndsEarly before x) (sym ends.1) (ended_early before front place stands long ends.0))))
first_from (byte ∷ text) place front before r stands long is =
    first_on (step true front byte) before front byte text place r stands long refl
    (λ next stands'. first_from text (place + 1) next (before ++ byte ∷ []) r stands' (omega (arith, long, length-append before (byte ∷ [])))) is

pub first_offence : (text : List ℕ) (r : Refusal) → read_payload text ≡ Err r → IsFirstOffence text r
first_offence text r is = first_from text 0 nothing_open [] r (at_item [] [] refl refl refl) refl is
