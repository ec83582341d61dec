-- Nothing offends in what is read.
use Rattle.std.proofs.Common.{◌≡◌, ◌≢◌, ℕ, ◌-◌, ◌≤◌, ◌<◌, inl, inr, nat_lt, Bool, true, false, List, [], ◌∷◌, ◌++◌, codes, append_assoc, append-nil, length, length-drop, drop, Option, Some, None, is_some, Ok, refl, ap, sym, ◌∙◌, subst, arith}
use Rattle.std.specs.List.{concat}
use Rattle.std.proofs.lemmas.Grind.{common_steps}
use Rattle.std.proofs.lemmas.List.{take-append-drop}
use Rattle.time_codes.specs.Countings.{counting_text}
use Rattle.time_codes.specs.Texts.{time_of_text}
use Rattle.time_codes.proofs.TextLemmas.{read_is_spelled}
use Rattle.time_codes.specs.declared.counting.Counting.{Counting}
use Rattle.time_codes.specs.declared.counting.Counting.TheVariants as counting
use Rattle.time_codes.specs.declared.time_code.TimeCode.{TimeCode}
use Rattle.hex_digits.specs.HexDigits.{hex_value}
use Rattle.scc_files.specs.Lines.{IsLineEnd}
use Rattle.scc_files.specs.Offences.{EndsLine}
use Rattle.mcc_files.specs.Items.{AreItems}
use Rattle.mcc_files.specs.Payloads.{IsPayload, Payload, checksum_byte, payload_bytes}
use Rattle.mcc_files.specs.PayloadReading.{Open, is_whole, joined, nothing_open}
use Rattle.mcc_files.proofs.CompleteLemmas.{begins_payload}
use Rattle.mcc_files.proofs.FirstLemmas.{Stands, at_digit, at_item, leads_one, some_digit}
use Rattle.mcc_files.proofs.PacketLemmas.{packet_whole}
use Rattle.mcc_files.proofs.ReadLemmas.{items_lead, under_leads}
use Rattle.mcc_files.proofs.SoundLemmas.{read_is_payload}
use Rattle.mcc_files.proofs.StepLemmas.{at_bytes}
use Rattle.mcc_files.specs.Lines.{IsAttribute, IsComment, IsMccForm, IsMccLine, IsName, IsPacketLine, IsRate, IsReadPast, Line, attribute, format_text, nothing, packet, rate, rate_name}
use Rattle.mcc_files.specs.MccFiles.{IsMccFile, TimedPackets}
use Rattle.mcc_files.specs.Offences.{AwaitsItem, AwaitsTime, BeginsMccFile, EndsInTime, HasMccRate, IsUnoffendingMcc}
use Rattle.mcc_files.specs.Phases.{rate_bytes}
use Rattle.mcc_files.specs.Reading.{State, ends, ends_in, placed_with, started}
use Rattle.mcc_files.specs.declared.phase.Phase.{Phase}
use Rattle.mcc_files.specs.declared.phase.Phase.TheVariants as phase
use Rattle.mcc_files.specs.declared.phase.RateText.{RateText}
use Rattle.mcc_files.specs.declared.phase.RateText.TheVariants as rate_text
use Rattle.mcc_files.proofs.FrontLemmas.{digits_past, field_past, letters_more, no_past}
use Rattle.mcc_files.proofs.OriginLemmas.{ended_file, first_is_file, form_more, in_line_origin, lf_origin}
use Rattle.mcc_files.proofs.Origins.{BehindFirst, Front, InFirst, InLine, Origin, OriginIn, PayloadFront, TimeFront, TimedBy, told_of, version_of}
use Rattle.mcc_files.proofs.ToldLemmas.{TellAll, Tells, Told, none_is_some, some_same, tell_more, told_nothing, told_say}

-- a file that the bytes are
pub is_begun : (before : List ℕ) (placed : TimedPackets) → IsMccFile placed before → BeginsMccFile before
is_begun before placed file = record { more = []; placed = placed; file = subst (λ (b : List ℕ). IsMccFile placed b) (sym (append-nil before)) file }

-- a file whose last line goes on from the open one
pub line_begins : (before rest : List ℕ) (s : State) (o : InLine before s) (line : Line) (u : Told) → IsMccLine (version_of s.two) line (o.front ++ rest) → Tells o.told line u → BeginsMccFile before
line_begins before rest s o line u is tells =
    let form = form_more (version_of s.two) o.lines o.head o.end (o.front ++ rest) line o.form o.is_end is in
    let texts : o.head ++ (o.end ++ (o.front ++ rest)) ≡ before ++ rest =
    ap (λ x. o.head ++ x) (sym (append_assoc o.end o.front rest)) ∙ (sym (append_assoc o.head (o.end ++ o.front) rest) ∙ ap (λ x. x ++ rest) (sym o.spelled)) in
    record {
      more = rest;
      placed = u.placed;
      file = record {
        version = version_of s.two;
        lines = o.lines ++ line ∷ [];
        form = subst (λ (b : List ℕ). IsMccForm (version_of s.two) (o.lines ++ line ∷ []) b) texts form;
        say = told_say (o.lines ++ line ∷ []) u (tell_more o.lines told_nothing o.told line u o.tell tells);
      };
    }

-- the name of another attribute
pub no_tail : (xs : List ℕ) (a : ℕ) → [] ≡ xs ++ a ∷ [] → ⊥
no_tail [] a is = cc
no_tail (x ∷ xs) a is = cc

pub last_same : (xs ys : List ℕ) (a b : ℕ) → xs ++ a ∷ [] ≡ ys ++ b ∷ [] → a ≡ b
last_same [] [] a b is = cc
last_same [] (y ∷ ys) a b is = let rest : [] ≡ ys ++ b ∷ [] = cc in absurd (no_tail ys b rest)
last_same (x ∷ xs) [] a b is = let rest : [] ≡ xs ++ a ∷ [] = cc in absurd (no_tail xs a rest)
last_same (x ∷ xs) (y ∷ ys) a b is = let rest : xs ++ a ∷ [] ≡ ys ++ b ∷ [] = cc in last_same xs ys a b rest

pub other_by_x : (name : List ℕ) → name ++ 120 ∷ [] ≢ rate_name
other_by_x name = λ same. let last : 120 ≡ 101 = last_same name (codes "Time Code Rat") 120 101 same in absurd (omega (arith, last))

pub name_begins : (name : List ℕ) → IsName name → IsAttribute (name ++ 120 ∷ 61 ∷ [])
name_begins name is = record {
  name = name ++ 120 ∷ [];
  value = [];
  is_name = letters_more name 120 is refl;
  other = other_by_x name;
  within = refl;
  spelled = sym (append_assoc name (120 ∷ []) (61 ∷ []));
}

-- the text of a count goes on
pub record RateGoesOn (text : RateText) : Type 0 where
  pub rest : List ℕ
  pub count : Counting
  pub is : rate_bytes text ++ rest ≡ counting_text count

pub rate_goes_on : (text : RateText) → RateGoesOn text
rate_goes_on rate_text.Empty = record { rest = codes "24"; count = counting.F24; is = refl }
rate_goes_on rate_text.Two = record { rest = codes "4"; count = counting.F24; is = refl }
rate_goes_on rate_text.Three = record { rest = codes "0"; count = counting.F30; is = refl }
rate_goes_on rate_text.Five = record { rest = codes "0"; count = counting.F50; is = refl }
rate_goes_on rate_text.Six = record { rest = codes "0"; count = counting.F60; is = refl }
rate_goes_on rate_text.ThirtyD = record { rest = codes "F"; count = counting.F30Drop; is = refl }
rate_goes_on rate_text.SixtyD = record { rest = codes "F"; count = counting.F60Drop; is = refl }
rate_goes_on (rate_text.Whole count) = record { rest = []; count = count; is = append-nil (counting_text count) }

pub rate_is : (front : List ℕ) (text : RateText) (g : RateGoesOn text) → front ≡ rate_name ++ (61 ∷ rate_bytes text) → IsRate g.count (front ++ g.rest)
rate_is front text g spelled = record {
  spaces = [];
  are_spaces = tt;
  spelled = ap (λ x. x ++ g.rest) spelled
      ∙ (append_assoc rate_name (61 ∷ rate_bytes text) g.rest ∙ ap (λ x. rate_name ++ (61 ∷ x)) (g.is ∙ sym (append-nil (counting_text g.count))));
}

-- the time code rate stands among lines that told it
pub count_stays : (lines : List Line) (t u : Told) (count : Counting) → TellAll t lines u → t.count ≡ Some count → u.count ≡ Some count
count_stays [] t u count same is = ap (λ x. x.count) (sym same) ∙ is
count_stays (nothing ∷ lines) t u count (next, same, more) is = count_stays lines next u count more (ap (λ x. x.count) same ∙ is)
count_stays (attribute ∷ lines) t u count (next, (none, same), more) is = count_stays lines next u count more (ap (λ x. x.count) same ∙ is)
count_stays (rate other ∷ lines) t u count (next, (none, no_rate, same), more) is = absurd (none_is_some count (sym no_rate ∙ is))
count_stays (packet time payload ∷ lines) t u count (next, (other, frame, counted, framed, same), more) is = count_stays lines next u count more (ap (λ x. x.count) same ∙ is)

pub rate_told : (lines : List Line) (t u : Told) (count : Counting) → TellAll t lines u → t.count ≡ None → u.count ≡ Some count → HasMccRate count lines
rate_told [] t u count same none is = absurd (none_is_some count (sym none ∙ (ap (λ x. x.count) same ∙ is)))
rate_told (nothing ∷ lines) t u count (next, same, more) none is =
    let (before, after, spelled) = rate_told lines next u count more (ap (λ x. x.count) same ∙ none) is in
    (nothing ∷ before, after, ap (λ l. nothing ∷ l) spelled)
rate_told (attribute ∷ lines) t u count (next, (no_packet, same), more) none is =
    let (before, after, spelled) = rate_told lines next u count more (ap (λ x. x.count) same ∙ none) is in
    (attribute ∷ before, after, ap (λ l. attribute ∷ l) spelled)
rate_told (rate other ∷ lines) t u count (next, (no_packet, no_rate, same), more) none is =
    let stays = count_stays lines next u other more (ap (λ x. x.count) same) in
    let one_rate : other ≡ count = some_same other count (sym stays ∙ is) in
    ([], lines, ap (λ c. rate c ∷ lines) one_rate)
rate_told (packet time payload ∷ lines) t u count (next, (other, frame, counted, framed, same), more) none is = absurd (none_is_some other (sym none ∙ counted))

-- the lines before the open one await a time code
pub ends_line : (head end : List ℕ) → IsLineEnd end → EndsLine (head ++ end)
ends_line head end (inl lf) = (head, ap (λ x. head ++ x) lf)
ends_line head end (inr cr) = (head ++ 13 ∷ [], ap (λ x. head ++ x) cr ∙ sym (append_assoc head (13 ∷ []) (10 ∷ [])))

pub awaits_of : (before : List ℕ) (s : State) (o : InLine before s) (count : Counting) → o.told.count ≡ Some count → AwaitsTime (version_of s.two) count (o.head ++ o.end)
awaits_of before s o count counted =
    let lines = o.lines ++ nothing ∷ [] in
    let form = form_more (version_of s.two) o.lines o.head o.end [] nothing o.form o.is_end (inl tt) in
    let tell = tell_more o.lines told_nothing o.told nothing o.told o.tell refl in
    record {
      lines = lines;
      placed = o.told.placed;
      form = subst (λ (x : List ℕ). IsMccForm (version_of s.two) lines (o.head ++ x)) (append-nil o.end) form;
      say = told_say lines o.told tell;
      has_rate = rate_told lines told_nothing o.told count tell refl counted;
      ends = ends_line o.head o.end o.is_end;
    }

pub front_of : (before : List ℕ) (s : State) (o : InLine before s) → before ≡ (o.head ++ o.end) ++ o.front
front_of before s o = o.spelled ∙ sym (append_assoc o.head o.end o.front)

-- an open time code's text
pub some_time : (found : Option TimeCode) → is_some found ≡ true → (t : TimeCode) × (found ≡ Some t)
some_time (Some t) is = (t, refl)
some_time None is = absurd (cc)

pub not_empty : (xs : List ℕ) → 1 ≤ length xs → xs ≢ []
not_empty [] long = absurd (omega (arith, long))
not_empty (x ∷ xs) long = λ same. cc

pub in_time : (before : List ℕ) (s : State) (o : InLine before s) → TimeFront (told_of s) o.told s.text o.front → EndsInTime before
in_time before s o f =
    let back = drop (length s.text) (codes "00:00:00:00") in
    let (time, is) = some_time (time_of_text (s.text ++ back)) f.begins in
    let few = f.short in
    let long : length back ≡ 11 - length s.text = length-drop (length s.text) (codes "00:00:00:00") in
    record {
      version = version_of s.two;
      count = f.count;
      time = time;
      start = o.head ++ o.end;
      front = s.text;
      back = back;
      awaits = awaits_of before s o f.count f.counted;
      is_text = read_is_spelled time (s.text ++ back) is;
      some_front = not_empty s.text f.some;
      some_back = not_empty back (omega (arith, long, few));
      spelled = front_of before s o ∙ ap (λ x. (o.head ++ o.end) ++ x) f.spelled;
    }

-- a payload of zeros
pub zeros : List ℕ
zeros = codes "ZZZZ"

pub zeros_are : (payload : Payload) × IsPayload payload zeros
unfolding zeros
zeros_are = let r = read_is_payload (codes "ZZZZ") (0 ∷ 0 ∷ 0 ∷ 0 ∷ []) refl in (r.0, r.1)

-- a packet's line goes on
pub packet_begins : (before : List ℕ) (s : State) (o : InLine before s) (text past payload_text rest : List ℕ) (payload : Payload) → TimedBy (told_of s) o.told text → IsReadPast (version_of s.two) past
    → IsPayload payload payload_text → o.front ++ rest ≡ text ++ (past ++ (9 ∷ payload_text)) → BeginsMccFile before
packet_begins before s o text past payload_text rest payload timed is_past is spelled =
    line_begins before rest s o (packet timed.time payload) (record o.told { last = Some timed.frame; placed = o.told.placed ++ (timed.frame, payload) ∷ [] })
    (record {
      text = text;
      past = past;
      payload_text = payload_text;
      blanks = [];
      is_text = timed.is_text;
      is_past = is_past;
      is_payload = is;
      are_blanks = tt;
      spelled = spelled ∙ ap (λ x. text ++ (past ++ (9 ∷ x))) (sym (append-nil payload_text));
    })
    (timed.count, timed.frame, timed.counted, timed.framed, refl)

-- items that are no payload yet
pub not_whole_yet : (items : List (List ℕ)) (text bytes : List ℕ) → AreItems items text → joined true [] (concat items) ≡ Ok bytes → is_whole bytes ≡ false
    → (payload : Payload) → IsPayload payload text → ⊥
not_whole_yet items text bytes are is not_yet payload p =
    let goes = under_leads true payload (checksum_byte payload) text (record { items = p.items; are = p.are; stand_for = p.stand_for; right = λ on. refl }) in
    let lead = items_lead true [] bytes items text are is in
    let same = leads_one true nothing_open text (at_bytes bytes) (at_bytes (payload_bytes payload)) lead goes in
    let whole : is_whole bytes ≡ true = subst (λ (f : Open). is_whole f.bytes ≡ true) (sym same) (packet_whole payload (checksum_byte payload)) in
    cc

pub tail_on : (text past items more : List ℕ) → (text ++ (past ++ (9 ∷ items))) ++ more ≡ text ++ (past ++ (9 ∷ (items ++ more)))
tail_on text past items more = append_assoc text (past ++ (9 ∷ items)) more ∙ ap (λ x. text ++ x) (append_assoc past (9 ∷ items) more)

-- an open payload
pub at_items : (before : List ℕ) (s : State) (o : InLine before s) (text past payload_text : List ℕ) (items : List (List ℕ)) (bytes : List ℕ) → TimedBy (told_of s) o.told text
    → IsReadPast (version_of s.two) past → AreItems items payload_text → joined true [] (concat items) ≡ Ok bytes → o.front ≡ text ++ (past ++ (9 ∷ payload_text)) → BeginsMccFile before
at_items before s o text past payload_text items bytes timed is_past are is spelled =
    let b = begins_payload items payload_text bytes are is in
    packet_begins before s o text past (payload_text ++ b.more) b.more b.payload timed is_past b.is (ap (λ x. x ++ b.more) spelled ∙ tail_on text past payload_text b.more)

pub before_digit : (before : List ℕ) (s : State) (o : InLine before s) (text past start : List ℕ) (digit : ℕ) → o.front ≡ text ++ (past ++ (9 ∷ (start ++ digit ∷ [])))
    → before ≡ (((o.head ++ o.end) ++ (text ++ (past ++ (9 ∷ start)))) ++ digit ∷ [])
before_digit before s o text past start digit spelled =
    front_of before s o ∙ (ap (λ x. (o.head ++ o.end) ++ x) (spelled ∙ sym (tail_on text past start (digit ∷ [])))
    ∙ sym (append_assoc (o.head ++ o.end) (text ++ (past ++ (9 ∷ start))) (digit ∷ [])))

-- bytes with which a file begins, less the last
pub begins_less : (xs ys : List ℕ) → BeginsMccFile (xs ++ ys) → BeginsMccFile xs
begins_less xs ys b = record { more = ys ++ b.more; placed = b.placed; file = subst (λ (x : List ℕ). IsMccFile b.placed x) (append_assoc xs ys b.more) b.file }

pub front_begins : (before : List ℕ) (s : State) (o : InLine before s) (text past start : List ℕ) (items : List (List ℕ)) (bytes : List ℕ) → TimedBy (told_of s) o.told text
    → IsReadPast (version_of s.two) past → AreItems items start → joined true [] (concat items) ≡ Ok bytes → BeginsMccFile ((o.head ++ o.end) ++ (text ++ (past ++ (9 ∷ start))))
front_begins before s o text past start items bytes timed is_past are is =
    let front = text ++ (past ++ (9 ∷ start)) in
    let all = (o.head ++ o.end) ++ front in
    let b = begins_payload items start bytes are is in
    let line : IsPacketLine (version_of s.two) timed.time b.payload (front ++ b.more) = record {
      text = text;
      past = past;
      payload_text = start ++ b.more;
      blanks = [];
      is_text = timed.is_text;
      is_past = is_past;
      is_payload = b.is;
      are_blanks = tt;
      spelled = tail_on text past start b.more ∙ ap (λ x. text ++ (past ++ (9 ∷ x))) (sym (append-nil (start ++ b.more)));
    } in
    let u = record o.told { last = Some timed.frame; placed = o.told.placed ++ (timed.frame, b.payload) ∷ [] } in
    let form = form_more (version_of s.two) o.lines o.head o.end (front ++ b.more) (packet timed.time b.payload) o.form o.is_end line in
    let texts : o.head ++ (o.end ++ (front ++ b.more)) ≡ all ++ b.more =
    ap (λ x. o.head ++ x) (sym (append_assoc o.end front b.more)) ∙ (sym (append_assoc o.head (o.end ++ front) b.more) ∙ ap (λ x. x ++ b.more) (sym (append_assoc o.head o.end front))) in
    record {
      more = b.more;
      placed = u.placed;
      file = record {
        version = version_of s.two;
        lines = o.lines ++ packet timed.time b.payload ∷ [];
        form = subst (λ (x : List ℕ). IsMccForm (version_of s.two) (o.lines ++ packet timed.time b.payload ∷ []) x) texts form;
        say = told_say (o.lines ++ packet timed.time b.payload ∷ []) u
            (tell_more o.lines told_nothing o.told (packet timed.time b.payload) u o.tell (timed.count, timed.frame, timed.counted, timed.framed, refl));
      };
    }

-- items of a payload that is no whole one await an item
pub awaits_item : (before : List ℕ) (s : State) (o : InLine before s) (text past start : List ℕ) (items : List (List ℕ)) (bytes : List ℕ) → TimedBy (told_of s) o.told text
    → IsReadPast (version_of s.two) past → AreItems items start → joined true [] (concat items) ≡ Ok bytes → is_whole bytes ≡ false
    → AwaitsItem items ((o.head ++ o.end) ++ (text ++ (past ++ (9 ∷ start))))
awaits_item before s o text past start items bytes timed is_past are is not_yet = record {
  version = version_of s.two;
  count = timed.count;
  time = timed.time;
  start = o.head ++ o.end;
  text = text;
  past = past;
  items_text = start;
  awaits = awaits_of before s o timed.count timed.counted;
  is_text = timed.is_text;
  is_past = is_past;
  are = are;
  begins = front_begins before s o text past start items bytes timed is_past are is;
  begins_payload = begins_payload items start bytes are is;
  not_yet = not_whole_yet items start bytes are is not_yet;
  spelled = refl;
}

pub payload_unoffending : (before : List ℕ) (s : State) (o : InLine before s) → (f : PayloadFront s.two s.payload (told_of s) o.told o.front) → Stands f.payload_text s.payload → IsUnoffendingMcc before
payload_unoffending before s o f (at_item items bytes are is at) = inl (at_items before s o f.text f.past f.payload_text items bytes f.timed f.is_past are is f.spelled)
payload_unoffending before s o f (at_digit start items digit high bytes spelled are is digit_is not_yet at) =
    inr
    (inr
    (record {
      items = items;
      start = (o.head ++ o.end) ++ (f.text ++ (f.past ++ (9 ∷ start)));
      digit = digit;
      awaits = awaits_item before s o f.text f.past start items bytes f.timed f.is_past are is not_yet;
      is_digit = some_digit (hex_value digit) high digit_is;
      spelled = before_digit before s o f.text f.past start digit (f.spelled ∙ ap (λ x. f.text ++ (f.past ++ (9 ∷ x))) spelled);
    }))

-- what is read
pub ends_begins : (before : List ℕ) (s : State) (gives : Bool) → Origin before s → ends s ≡ Some gives → BeginsMccFile before
ends_begins before s gives o is = is_begun before (placed_with s gives) (ended_file before s gives o is)

pub least : (many : ℕ) (digits : List ℕ) → nat_lt 0 many ≡ true → length digits ≡ many → 1 ≤ length digits
least many digits some long = let low : 0 < many = grind (arith, common_steps) in omega (arith, long, low)

pub most : (many : ℕ) (digits : List ℕ) → many ≤ 5 → length digits ≡ many → length digits ≤ 5
most many digits few long = omega (arith, few, long)

pub no_digits : (many : ℕ) (digits : List ℕ) → nat_lt 0 many ≡ false → length digits ≡ many → digits ≡ []
no_digits many [] none long = refl
no_digits many (d ∷ digits) none long = let zero_is : many ≤ 0 = grind (arith, common_steps) in absurd (omega (arith, long, zero_is))

pub digits_begin : (before : List ℕ) (s : State) (o : InLine before s) (many : ℕ) → Front (phase.Digits many) s o.told o.front → (some : Bool) → nat_lt 0 many ≡ some → BeginsMccFile before
digits_begin before s o many f true some = packet_begins before s o f.text (46 ∷ f.field ∷ 44 ∷ f.digits) zeros (9 ∷ zeros) zeros_are.0 f.timed
    (digits_past s.two f.field f.digits f.is_two f.is_field f.are (least many f.digits some f.long) (most many f.digits f.few f.long)) zeros_are.1
    (ap (λ x. x ++ (9 ∷ zeros)) f.spelled ∙ append_assoc f.text (46 ∷ f.field ∷ 44 ∷ f.digits) (9 ∷ zeros))
digits_begin before s o many f false some =
    let none = no_digits many f.digits some f.long in
    packet_begins before s o f.text (46 ∷ f.field ∷ 44 ∷ 48 ∷ []) zeros (48 ∷ 9 ∷ zeros) zeros_are.0 f.timed
    (digits_past s.two f.field (48 ∷ []) f.is_two f.is_field refl (omega arith) (omega arith)) zeros_are.1
    (ap (λ x. x ++ (48 ∷ 9 ∷ zeros)) (f.spelled ∙ ap (λ d. f.text ++ 46 ∷ f.field ∷ 44 ∷ d) none) ∙ append_assoc f.text (46 ∷ f.field ∷ 44 ∷ []) (48 ∷ 9 ∷ zeros))

pub line_unoffending : (p : Phase) (before : List ℕ) (s : State) → s.phase ≡ p → (o : InLine before s) → Front p s o.told o.front → Origin before s → IsUnoffendingMcc before
line_unoffending (phase.First at) before s is o f whole = absurd f
line_unoffending phase.FirstSpaces before s is o f whole = absurd f
line_unoffending phase.FirstEnd before s is o f whole = absurd f
line_unoffending phase.Start before s is o f whole = inl (ends_begins before s false whole (ap (λ (p : Phase). ends_in p s.payload.bytes) is))
line_unoffending phase.Blank before s is o f whole = inl (ends_begins before s false whole (ap (λ (p : Phase). ends_in p s.payload.bytes) is))
line_unoffending phase.Slash before s is o f whole =
    let comment : IsComment (47 ∷ 47 ∷ []) = record { rest = []; within = refl; spelled = refl } in
    inl (line_begins before (47 ∷ []) s o nothing o.told (inr (subst (λ (x : List ℕ). IsComment (x ++ 47 ∷ [])) (sym f.0) comment)) refl)
line_unoffending phase.Comment before s is o f whole = inl (ends_begins before s false whole (ap (λ (p : Phase). ends_in p s.payload.bytes) is))
line_unoffending (phase.Name k) before s is o f whole = inl (line_begins before (120 ∷ 61 ∷ []) s o attribute o.told (name_begins o.front f.is_name) (f.none, refl))
line_unoffending phase.Value before s is o f whole = inl (ends_begins before s false whole (ap (λ (p : Phase). ends_in p s.payload.bytes) is))
line_unoffending (phase.Rate text) before s is o f whole =
    let g = rate_goes_on text in
    inl (line_begins before g.rest s o (rate g.count) (record o.told { count = Some g.count }) (rate_is o.front text g f.spelled) (f.no_packet, f.no_rate, refl))
line_unoffending phase.RateSpaces before s is o f whole = inl (ends_begins before s false whole (ap (λ (p : Phase). ends_in p s.payload.bytes) is))
line_unoffending phase.Time before s is o f whole = inr (inl (in_time before s o f))
line_unoffending phase.Timed before s is o f whole =
    inl (packet_begins before s o o.front [] zeros (9 ∷ zeros) zeros_are.0 f (no_past s.two) zeros_are.1 refl)
line_unoffending phase.Dot before s is o f whole =
    inl
    (packet_begins before s o f.text (46 ∷ 48 ∷ []) zeros (48 ∷ 9 ∷ zeros) zeros_are.0 f.timed (field_past s.two 48 f.is_two (inl refl)) zeros_are.1
    (ap (λ x. x ++ (48 ∷ 9 ∷ zeros)) f.spelled ∙ append_assoc f.text (46 ∷ []) (48 ∷ 9 ∷ zeros)))
line_unoffending phase.Field before s is o f whole =
    inl
    (packet_begins before s o f.text (46 ∷ f.field ∷ []) zeros (9 ∷ zeros) zeros_are.0 f.timed (field_past s.two f.field f.is_two f.is_field) zeros_are.1
    (ap (λ x. x ++ (9 ∷ zeros)) f.spelled ∙ append_assoc f.text (46 ∷ f.field ∷ []) (9 ∷ zeros)))
line_unoffending (phase.Digits many) before s is o f whole = inl (digits_begin before s o many f (nat_lt 0 many) refl)
line_unoffending phase.Payload before s is o f whole = payload_unoffending before s o f f.stands
line_unoffending phase.Behind before s is o f whole = inl (ends_begins before s true whole (ap (λ (p : Phase). ends_in p s.payload.bytes) is))
line_unoffending (phase.End gives) before s is o f whole =
    let in_line : InLine (before ++ 10 ∷ []) (started s gives) = lf_origin (phase.End gives) before s gives is o refl in
    inl (begins_less before (10 ∷ []) (ends_begins (before ++ 10 ∷ []) (started s gives) false in_line refl))

pub first_begins : (at : ℕ) (before : List ℕ) (s : State) → InFirst at before s → BeginsMccFile before
first_begins at before s o =
    let text = format_text (version_of s.two) in
    let all : before ++ drop at text ≡ text ++ ([] ++ []) = ap (λ x. x ++ drop at text) o.spelled ∙ (take-append-drop at text ∙ sym (append-nil text)) in
    let whole : BehindFirst [] (before ++ drop at text) s = record { spaces = []; are = tt; spelled = all; fresh = o.fresh } in
    record { more = drop at text; placed = s.placed; file = first_is_file (before ++ drop at text) s whole }

pub in_line_unoffending : (before : List ℕ) (s : State) → InLine before s → IsUnoffendingMcc before
in_line_unoffending before s o = line_unoffending s.phase before s refl o o.line (in_line_origin s.phase before s refl o)

pub unoffending_in : (p : Phase) (before : List ℕ) (s : State) → s.phase ≡ p → OriginIn p before s → IsUnoffendingMcc before
unoffending_in (phase.First at) before s is o = inl (first_begins at before s o)
unoffending_in phase.FirstSpaces before s is o = inl (is_begun before s.placed (first_is_file before s o))
unoffending_in phase.FirstEnd before s is o =
    let in_line : InLine (before ++ 10 ∷ []) (started s false) = lf_origin phase.FirstEnd before s false is o refl in
    inl (begins_less before (10 ∷ []) (ends_begins (before ++ 10 ∷ []) (started s false) false in_line refl))
unoffending_in phase.Start before s is o = in_line_unoffending before s o
unoffending_in phase.Blank before s is o = in_line_unoffending before s o
unoffending_in phase.Slash before s is o = in_line_unoffending before s o
unoffending_in phase.Comment before s is o = in_line_unoffending before s o
unoffending_in (phase.Name k) before s is o = in_line_unoffending before s o
unoffending_in phase.Value before s is o = in_line_unoffending before s o
unoffending_in (phase.Rate text) before s is o = in_line_unoffending before s o
unoffending_in phase.RateSpaces before s is o = in_line_unoffending before s o
unoffending_in phase.Time before s is o = in_line_unoffending before s o
unoffending_in phase.Timed before s is o = in_line_unoffending before s o
unoffending_in phase.Dot before s is o = in_line_unoffending before s o
unoffending_in phase.Field before s is o = in_line_unoffending before s o
unoffending_in (phase.Digits many) before s is o = in_line_unoffending before s o
unoffending_in phase.Payload before s is o = in_line_unoffending before s o
unoffending_in phase.Behind before s is o = in_line_unoffending before s o
unoffending_in (phase.End gives) before s is o = in_line_unoffending before s o

pub unoffending : (before : List ℕ) (s : State) → Origin before s → IsUnoffendingMcc before
unoffending before s o = unoffending_in s.phase before s refl o
