-- The first offence of bytes is the one with which they are refused.
use Rattle.std.proofs.Common.{◌≡◌, ℕ, ◌+◌, ◌-◌, ◌*◌, ◌⊎◌, inl, inr, ◌==◌, ◌&&◌, ◌||◌, nat_lt, Bool, true, false, cond, List, [], ◌∷◌, ◌++◌, append_assoc, append-nil, length, length-append, take, drop, Option, Some, None, is_some, Result, Ok, Err, refl, ap, sym, ◌∙◌, subst, arith, unwrap_or}
use Rattle.std.specs.Prelude.{slice_index}
use Rattle.std.specs.List.{concat}
use Rattle.std.proofs.lemmas.Bool.{cases_Bool, eqb-true}
use Rattle.std.proofs.lemmas.List.{take-append-drop}
use Rattle.cc_base.specs.declared.refusal.Refusal.{Refusal}
use Rattle.cc_base.specs.declared.why.Why.{Why}
use Rattle.cc_base.specs.declared.why.Why.TheVariants as why
use Rattle.time_codes.specs.Countings.{frame_in}
use Rattle.time_codes.specs.Texts.{is_digit, time_of_text}
use Rattle.time_codes.proofs.TextLemmas.{read_is_spelled}
use Rattle.time_codes.specs.declared.counting.Counting.{Counting}
use Rattle.time_codes.specs.declared.time_code.TimeCode.{TimeCode}
use Rattle.scc_files.specs.Lines.{AreSpaces, IsLineEnd}
use Rattle.scc_files.specs.Phases.{is_blank}
use Rattle.mcc_files.specs.Letters.{letter_bytes}
use Rattle.mcc_files.specs.PayloadOffences.{IsItemWhy}
use Rattle.mcc_files.specs.PayloadReading.{joined}
use Rattle.mcc_files.specs.PayloadReading.{Open, is_whole, step}
use Rattle.mcc_files.specs.declared.payload_reader.Offence.{Offence}
use Rattle.mcc_files.proofs.FirstLemmas.{Refuses, Stands, at_digit, at_item, closed_of, item_why, of_byte, of_digits, of_letter, refused_by}
use Rattle.mcc_files.proofs.StepLemmas.{joined_is}
use Rattle.mcc_files.specs.Lines.{IsMccForm, format_text, is_letter, is_name_byte, nothing, one, rate_name}
use Rattle.mcc_files.specs.MccFiles.{IsMccFile, TimedPackets}
use Rattle.mcc_files.specs.Offences.{BeginsMccFile, EndsNone, EndsUnit, IsFirstOffence, IsUnoffendingMcc, MccByteOffends, MccEndsEarly, mcc_line_why}
use Rattle.mcc_files.specs.Phases.{matched, rate_count, rate_moved, why_in}
use Rattle.mcc_files.specs.Reading.{State, at_first, begins_time, begun, behind_first, ended_by_cr, ended_by_lf, ends, ends_at_lf, in_phase, judged_frame, named, no_line, payload_begins, payload_goes, placed_with, rate_read, read_file, run, taken, take_byte, timed, within}
use Rattle.mcc_files.specs.declared.phase.Phase.{Phase}
use Rattle.mcc_files.specs.declared.phase.Phase.TheVariants as phase
use Rattle.mcc_files.specs.declared.phase.RateText.{RateText}
use Rattle.mcc_files.specs.declared.phase.RateText.TheVariants as rate_text
use Rattle.mcc_files.proofs.FileReads.{file_is_read, file_run}
use Rattle.mcc_files.proofs.FrontLemmas.{rate_whole}
use Rattle.mcc_files.proofs.OriginLemmas.{ended_file, form_more, origin}
use Rattle.mcc_files.proofs.Origins.{BehindFirst, Front, InFirst, InLine, NameFront, Origin, OriginIn, PayloadFront, TimeFront, told_of, version_of}
use Rattle.mcc_files.proofs.PacketReads.{in_payload}
use Rattle.mcc_files.proofs.ToldLemmas.{tell_more, told_nothing, told_say}
use Rattle.mcc_files.proofs.RunLemmas.{StopsAt, ok_one, refused_stays, run_more, stops, stops_read, stops_short}
use Rattle.mcc_files.proofs.UnitReads.{RefusedSo, before_why, by_digits, by_letter, err_same, goes_err, item_refused, letter_no_cr, letter_no_lf, rate_refused, time_refused, timed_err, unoffending_runs}
use Rattle.mcc_files.proofs.Unoffending.{awaits_item, awaits_of, before_digit, ends_line, front_of, unoffending}

-- the refusal of an offence after bytes
abbrev pub refusal_at : List ℕ → Offence → Refusal
refusal_at before o = record { place = length before - o.back; why = o.why }

-- a byte is no letter of a payload that goes on
abbrev pub NoLetter : State → ℕ → Type 0
NoLetter s byte = (front : Open) (to : State) (brought : List ℕ) → s ≡ in_payload to front → front.digit ≡ None → is_whole front.bytes ≡ false → letter_bytes byte ≡ Some brought → ⊥

-- how a byte is refused
pub data Kind (before : List ℕ) (s : State) (byte : ℕ) (o : Offence) : Type 0 where
  plain : o ≡ record { back = 0; why = why_in s.phase } → NoLetter s byte → Kind before s byte o
  unit : EndsUnit (before ++ byte ∷ []) (refusal_at before o) → Kind before s byte o

pub no_line_is : (s : State) (o : Offence) → no_line s ≡ Err o → o ≡ record { back = 0; why = why_in s.phase }
no_line_is s o is = sym (err_same (record { back = 0; why = why_in s.phase }) o is)

pub taken_err : (s : State) (test : Bool) (next : State) (o : Offence) → taken s test next ≡ Err o → o ≡ record { back = 0; why = why_in s.phase }
taken_err s true next o is = absurd (cc)
taken_err s false next o is = no_line_is s o is

pub chosen_err : (test : Bool) (a : State) (rest : Result State Offence) (o : Offence) → cond test (Ok a) rest ≡ Err o → rest ≡ Err o
chosen_err true a rest o is = absurd (cc)
chosen_err false a rest o is = is

pub ok_no_err : (s : State) (o : Offence) → ◌≡◌ {A = Result State Offence} (Ok s) (Err o) → ⊥
ok_no_err s o is = cc

-- in another phase than a payload's
pub other_phase : (p : Phase) (s : State) (byte : ℕ) → s.phase ≡ p → (p ≡ phase.Payload → ⊥) → NoLetter s byte
other_phase p s byte is other front to brought same none not_yet letter = other (sym is ∙ ap (λ (x : State). x.phase) same)

pub plain_in : (before : List ℕ) (p : Phase) (s : State) (byte : ℕ) (o : Offence) → s.phase ≡ p → (p ≡ phase.Payload → ⊥) → o ≡ record { back = 0; why = why_in s.phase } → Kind before s byte o
plain_in before p s byte o is other same = plain same (other_phase p s byte is other)

pub letter_begun_err : (s : State) (byte : ℕ) (letter : Bool) (next last : State) (test digits : Bool) (o : Offence) → cond letter (taken s test next) (taken s digits last) ≡ Err o
    → o ≡ record { back = 0; why = why_in s.phase }
letter_begun_err s byte true next last test digits o is = taken_err s test next o is
letter_begun_err s byte false next last test digits o is = taken_err s digits last o is

pub begun_err : (s : State) (byte : ℕ) (o : Offence) → begun s byte ≡ Err o → o ≡ record { back = 0; why = why_in s.phase }
begun_err s byte o is =
    let first = chosen_err (is_blank byte) (in_phase s phase.Blank) _ o is in
    let second = chosen_err (byte == 47) (in_phase s phase.Slash) _ o first in
    letter_begun_err s byte (is_letter byte) _ _ _ _ o second

-- a second time code rate
pub start_begins : (before : List ℕ) (s : State) (line : InLine before s) → BeginsMccFile (line.head ++ line.end)
start_begins before s line =
    let form = form_more (version_of s.two) line.lines line.head line.end [] nothing line.form line.is_end (inl tt) in
    record {
      more = [];
      placed = line.told.placed;
      file = record {
        version = version_of s.two;
        lines = line.lines ++ nothing ∷ [];
        form = subst (λ (x : List ℕ). IsMccForm (version_of s.two) (line.lines ++ nothing ∷ []) x) (sym (append_assoc line.head line.end [])) form;
        say = told_say (line.lines ++ nothing ∷ []) line.told (tell_more line.lines told_nothing line.told nothing line.told line.tell refl);
      };
    }

pub rate_unit : (before : List ℕ) (s : State) (line : InLine before s) (o : Offence) → line.front ≡ rate_name → o ≡ record { back = 14; why = why.MccSyntax }
    → EndsUnit (before ++ 61 ∷ []) (refusal_at before o)
rate_unit before s line o named_is same =
    let start = line.head ++ line.end in
    let spelled : before ≡ start ++ rate_name = front_of before s line ∙ ap (λ x. start ++ x) named_is in
    let long : length before ≡ length start + 14 = ap (λ x. length x) spelled ∙ length-append start rate_name in
    let back : o.back ≡ 14 = ap (λ (x : Offence). x.back) same in
    inr
    (inr
    (record {
      start = start;
      begins = start_begins before s line;
      ends = ends_line line.head line.end line.is_end;
      spelled = ap (λ x. x ++ 61 ∷ []) spelled ∙ append_assoc start rate_name (61 ∷ []);
      place_is = omega (arith, long, back);
      why_is = ap (λ (x : Offence). x.why) same;
    }))

pub named_err : (before : List ℕ) (s : State) (line : InLine before s) (k : ℕ) (o : Offence) → s.phase ≡ phase.Name k → NameFront k (told_of s) line.told line.front → (whole some : Bool) → (k == 14) ≡ whole
    → cond {A = Result State Offence} whole (cond some (Err (record { back = 14; why = why.MccSyntax })) (Ok (in_phase s (phase.Rate rate_text.Empty)))) (Ok (in_phase s phase.Value)) ≡ Err o
    → Kind before s 61 o
named_err before s line k o at f true true whole is =
    unit (rate_unit before s line o (rate_whole k line.front f.matches whole) (sym (err_same (record { back = 14; why = why.MccSyntax }) o is)))
named_err before s line k o at f true false whole is = absurd (ok_no_err (in_phase s (phase.Rate rate_text.Empty)) o is)
named_err before s line k o at f false some whole is = absurd (ok_no_err (in_phase s phase.Value) o is)

pub name_no_payload : (k : ℕ) → phase.Name k ≡ phase.Payload → ⊥
name_no_payload k is = cc

pub name_err : (before : List ℕ) (s : State) (line : InLine before s) (k byte : ℕ) (o : Offence) → s.phase ≡ phase.Name k → NameFront k (told_of s) line.told line.front → (sign : Bool) → (byte == 61) ≡ sign
    → cond sign (named s k) (taken s (is_name_byte byte) (in_phase s (phase.Name (matched k byte)))) ≡ Err o → Kind before s byte o
name_err before s line k byte o at f true sign is =
    subst (λ (b : ℕ). Kind before s b o) (sym (eqb-true byte 61 sign)) (named_err before s line k o at f (k == 14) (is_some s.count) refl is)
name_err before s line k byte o at f false sign is =
    plain_in before (phase.Name k) s byte o at (name_no_payload k) (taken_err s (is_name_byte byte) (in_phase s (phase.Name (matched k byte))) o is)

pub rate_err : (s : State) (text : RateText) (found : Option RateText) (byte : ℕ) (o : Offence) → rate_read s text found byte ≡ Err o → o ≡ record { back = 0; why = why_in s.phase }
rate_err s text (Some next) byte o is = absurd (ok_no_err (record s { phase = phase.Rate next; count = rate_count next }) o is)
rate_err s text None byte o is = taken_err s (is_some (rate_count text) && (byte == 32)) (in_phase s phase.RateSpaces) o is

-- a time code's text
pub frame_err : (a b : Offence) → ◌≡◌ {A = Result ℕ Offence} (Err a) (Err b) → a ≡ b
frame_err a b is = cc

pub time_no_payload : phase.Time ≡ phase.Payload → ⊥
time_no_payload is = cc

pub plain_time : (s : State) (o : Offence) → s.phase ≡ phase.Time → ◌≡◌ {A = Result ℕ Offence} (Err (record { back = 0; why = why.MccSyntax })) (Err o)
    → o ≡ record { back = 0; why = why_in s.phase }
plain_time s o at is = sym (frame_err (record { back = 0; why = why.MccSyntax }) o is) ∙ ap (λ (p : Phase). record { back = 0; why = why_in p }) (sym at)

pub judged_err : (before : List ℕ) (s : State) (line : InLine before s) (byte : ℕ) (o : Offence) → s.phase ≡ phase.Time → (f : TimeFront (told_of s) line.told s.text line.front)
    → length (s.text ++ byte ∷ []) ≡ 11 → (count : Option Counting) → s.count ≡ count → (found : Option TimeCode) → time_of_text (s.text ++ byte ∷ []) ≡ found → judged_frame count s.last found ≡ Err o → Kind before s byte o
judged_err before s line byte o at f long None counted found time_is is = plain_in before phase.Time s byte o at time_no_payload (plain_time s o at is)
judged_err before s line byte o at f long (Some count) counted None time_is is = plain_in before phase.Time s byte o at time_no_payload (plain_time s o at is)
judged_err before s line byte o at f long (Some count) counted (Some time) time_is is =
    let start = line.head ++ line.end in
    let (back, reason) = before_why count time (unwrap_or s.last 0) (frame_in count time) o refl is in
    let told : line.told.count ≡ Some count = sym (ap (λ x. x.count) f.told) ∙ counted in
    let spelled : before ≡ start ++ s.text = front_of before s line ∙ ap (λ x. start ++ x) f.spelled in
    let size : length before ≡ length start + length s.text = ap (λ x. length x) spelled ∙ length-append start s.text in
    let ten : length s.text + 1 ≡ 11 = sym (length-append s.text (byte ∷ [])) ∙ long in
    unit
    (inl
    (record {
      version = version_of s.two;
      count = count;
      time = time;
      start = start;
      text = s.text ++ byte ∷ [];
      awaits = awaits_of before s line count told;
      is_text = read_is_spelled time (s.text ++ byte ∷ []) time_is;
      spelled = ap (λ x. x ++ byte ∷ []) spelled ∙ append_assoc start s.text (byte ∷ []);
      place_is = omega (arith, size, ten, back);
      why_is = reason;
    }))

pub time_err : (before : List ℕ) (s : State) (line : InLine before s) (byte : ℕ) (o : Offence) → s.phase ≡ phase.Time → (f : TimeFront (told_of s) line.told s.text line.front) → (whole : Bool)
    → (length (s.text ++ byte ∷ []) == 11) ≡ whole
    → cond whole (timed s (s.text ++ byte ∷ []) (judged_frame s.count s.last (time_of_text (s.text ++ byte ∷ []))))
    (taken s (begins_time (s.text ++ byte ∷ [])) (record s { phase = phase.Time; text = s.text ++ byte ∷ [] })) ≡ Err o → Kind before s byte o
time_err before s line byte o at f true whole is =
    judged_err before s line byte o at f (eqb-true (length (s.text ++ byte ∷ [])) 11 whole) s.count refl (time_of_text (s.text ++ byte ∷ [])) refl
    (timed_err s (s.text ++ byte ∷ []) (judged_frame s.count s.last (time_of_text (s.text ++ byte ∷ []))) o is)
time_err before s line byte o at f false whole is =
    plain_in before phase.Time s byte o at time_no_payload (taken_err s (begins_time (s.text ++ byte ∷ [])) (record s { phase = phase.Time; text = s.text ++ byte ∷ [] }) o is)

-- a payload
pub whole_no_letter : (s : State) (byte : ℕ) → is_whole s.payload.bytes ≡ true → NoLetter s byte
whole_no_letter s byte whole front to brought same none not_yet letter =
    let other : is_whole s.payload.bytes ≡ false = ap (λ (x : State). is_whole x.payload.bytes) same ∙ not_yet in
    cc

pub byte_no_letter : (s : State) (byte : ℕ) → (s.payload.digit ≡ None → letter_bytes byte ≡ None) → NoLetter s byte
byte_no_letter s byte no_letter front to brought same none not_yet letter =
    let digit : s.payload.digit ≡ None = ap (λ (x : State). x.payload.digit) same ∙ none in
    let other : letter_bytes byte ≡ None = no_letter digit in
    cc

pub item_unit : (before : List ℕ) (s : State) (line : InLine before s) (byte : ℕ) (o : Offence) (f : PayloadFront s.two s.payload (told_of s) line.told line.front) → Stands f.payload_text s.payload
    → is_whole s.payload.bytes ≡ false → s.phase ≡ phase.Payload → Refuses s.payload byte o → Kind before s byte o
item_unit before s line byte o f stands not_yet at (of_byte no_letter form same) =
    plain (same ∙ ap (λ (p : Phase). record { back = 0; why = why_in p }) (sym at)) (byte_no_letter s byte no_letter)
item_unit before s line byte o f (at_item items bytes are join bytes_is) not_yet at (of_letter brought reason none letter wrong same) =
    let front = f.text ++ (f.past ++ (9 ∷ f.payload_text)) in
    let start = (line.head ++ line.end) ++ front in
    let spelled : before ≡ start = front_of before s line ∙ ap (λ x. (line.head ++ line.end) ++ x) f.spelled in
    let bytes' : s.payload.bytes ≡ bytes = ap (λ x. x.bytes) bytes_is in
    let all : bytes ≡ concat items = joined_is true [] (concat items) bytes join in
    let wrong' = subst (λ (b : List ℕ). joined true b brought ≡ Err reason) (bytes' ∙ all) wrong in
    let back : o.back ≡ 0 = ap (λ (x : Offence). x.back) same in
    let long : length before ≡ length start = ap (λ x. length x) spelled in
    unit
    (inr
    (inl
    (record {
      items = items;
      start = start;
      brought = brought;
      item = byte ∷ [];
      awaits = awaits_item before s line f.text f.past f.payload_text items bytes f.timed f.is_past are join (subst (λ (b : List ℕ). is_whole b ≡ false) bytes' not_yet);
      is_item = inr (record { letter = byte; spelled = refl; is = letter });
      spelled = ap (λ x. x ++ byte ∷ []) spelled;
      place_is = omega (arith, long, back);
      why_is = subst (λ (r : Why). IsItemWhy (concat items) brought r) (sym (ap (λ (x : Offence). x.why) same))
          (item_why (concat items) brought reason (join ∙ ap (λ b. Ok b) all) wrong');
    })))
item_unit before s line byte o f (at_item items bytes are join bytes_is) not_yet at (of_digits high low reason some digit wrong same) =
    let none : s.payload.digit ≡ None = ap (λ x. x.digit) bytes_is in
    absurd (cc)
item_unit before s line byte o f (at_digit start' items digit first bytes text_is are join digit_is yet bytes_is) not_yet at (of_letter brought reason none letter wrong same) =
    let some : s.payload.digit ≡ Some first = ap (λ x. x.digit) bytes_is in
    absurd (cc)
item_unit before s line byte o f (at_digit start' items digit first bytes text_is are join digit_is yet bytes_is) not_yet at (of_digits high low reason some low_is wrong same) =
    let front = f.text ++ (f.past ++ (9 ∷ start')) in
    let start = (line.head ++ line.end) ++ front in
    let first_some : s.payload.digit ≡ Some first = ap (λ x. x.digit) bytes_is in
    let highs : first ≡ high = cc in
    let bytes' : s.payload.bytes ≡ bytes = ap (λ x. x.bytes) bytes_is in
    let all : bytes ≡ concat items = joined_is true [] (concat items) bytes join in
    let wrong' = subst (λ (b : List ℕ). joined true b ((16 * high + low) ∷ []) ≡ Err reason) (bytes' ∙ all) wrong in
    let back : o.back ≡ 1 = ap (λ (x : Offence). x.back) same in
    let spelled : before ≡ start ++ digit ∷ [] = before_digit before s line f.text f.past start' digit (f.spelled ∙ ap (λ x. f.text ++ (f.past ++ (9 ∷ x))) text_is) in
    let long : length before ≡ length start + 1 = ap (λ x. length x) spelled ∙ length-append start (digit ∷ []) in
    unit
    (inr
    (inl
    (record {
      items = items;
      start = start;
      brought = (16 * high + low) ∷ [];
      item = digit ∷ byte ∷ [];
      awaits = awaits_item before s line f.text f.past start' items bytes f.timed f.is_past are join yet;
      is_item = inl (record { high = digit; low = byte; first = high; second = low; spelled = refl; high_is = digit_is ∙ ap (λ h. Some h) highs; low_is = low_is; are = refl });
      spelled = ap (λ x. x ++ byte ∷ []) spelled ∙ append_assoc start (digit ∷ []) (byte ∷ []);
      place_is = omega (arith, long, back);
      why_is = subst (λ (r : Why). IsItemWhy (concat items) ((16 * high + low) ∷ []) r) (sym (ap (λ (x : Offence). x.why) same))
          (item_why (concat items) ((16 * high + low) ∷ []) reason (join ∙ ap (λ b. Ok b) all) wrong');
    })))

pub payload_err : (before : List ℕ) (s : State) (line : InLine before s) (byte : ℕ) (o : Offence) (f : PayloadFront s.two s.payload (told_of s) line.told line.front) → s.phase ≡ phase.Payload
    → (whole : Bool) → is_whole s.payload.bytes ≡ whole → cond whole (taken s (is_blank byte) (in_phase s phase.Behind)) (payload_goes s (step true s.payload byte)) ≡ Err o → Kind before s byte o
payload_err before s line byte o f at true whole is = plain (taken_err s (is_blank byte) (in_phase s phase.Behind) o is) (whole_no_letter s byte whole)
payload_err before s line byte o f at false whole is =
    let found = goes_err s (step true s.payload byte) o is in
    item_unit before s line byte o f f.stands whole at (refused_by s.payload byte o (is_whole s.payload.bytes) refl (closed_of f.payload_text s.payload f.stands) found)

-- the open line
pub line_of : (p : Phase) (before : List ℕ) (s : State) → s.phase ≡ p → (line : InLine before s) → Front p s line.told line.front
line_of p before s is line = subst (λ (q : Phase). Front q s line.told line.front) is line.line

pub first_err : (s : State) (at byte : ℕ) (second : Bool) (o : Offence)
    → cond second (Ok (record s { phase = phase.First 29; two = true })) (taken s (byte == slice_index (format_text one) at) (in_phase s (behind_first at))) ≡ Err o
    → o ≡ record { back = 0; why = why_in s.phase }
first_err s at byte true o is = absurd (ok_no_err (record s { phase = phase.First 29; two = true }) o is)
first_err s at byte false o is = taken_err s (byte == slice_index (format_text one) at) (in_phase s (behind_first at)) o is

-- a byte within a line
pub within_err : (p : Phase) (before : List ℕ) (s : State) (byte : ℕ) (o : Offence) → s.phase ≡ p → OriginIn p before s → within s p byte ≡ Err o → Kind before s byte o
within_err (phase.First at) before s byte o is f refused =
    plain_in before (phase.First at) s byte o is (λ same. cc) (first_err s at byte ((at == 28) && (byte == 50)) o refused)
within_err phase.FirstSpaces before s byte o is f refused = plain_in before phase.FirstSpaces s byte o is (λ same. cc) (taken_err s (byte == 32) (in_phase s phase.FirstSpaces) o refused)
within_err phase.FirstEnd before s byte o is f refused = plain_in before phase.FirstEnd s byte o is (λ same. cc) (no_line_is s o refused)
within_err phase.Start before s byte o is f refused = plain_in before phase.Start s byte o is (λ same. cc) (begun_err s byte o refused)
within_err phase.Blank before s byte o is f refused = plain_in before phase.Blank s byte o is (λ same. cc) (taken_err s (is_blank byte) (in_phase s phase.Blank) o refused)
within_err phase.Slash before s byte o is f refused = plain_in before phase.Slash s byte o is (λ same. cc) (taken_err s (byte == 47) (in_phase s phase.Comment) o refused)
within_err phase.Comment before s byte o is f refused = absurd (ok_no_err (in_phase s phase.Comment) o refused)
within_err (phase.Name k) before s byte o is f refused = name_err before s f k byte o is (line_of (phase.Name k) before s is f) (byte == 61) refl refused
within_err phase.Value before s byte o is f refused = absurd (ok_no_err (in_phase s phase.Value) o refused)
within_err (phase.Rate text) before s byte o is f refused = plain_in before (phase.Rate text) s byte o is (λ same. cc) (rate_err s text (rate_moved text byte) byte o refused)
within_err phase.RateSpaces before s byte o is f refused = plain_in before phase.RateSpaces s byte o is (λ same. cc) (taken_err s (byte == 32) (in_phase s phase.RateSpaces) o refused)
within_err phase.Time before s byte o is f refused =
    time_err before s f byte o is (line_of phase.Time before s is f) (length (s.text ++ byte ∷ []) == 11) refl refused
within_err phase.Timed before s byte o is f refused =
    plain_in before phase.Timed s byte o is (λ same. cc) (taken_err s (s.two && (byte == 46)) (in_phase s phase.Dot) o (chosen_err (byte == 9) (payload_begins s) _ o refused))
within_err phase.Dot before s byte o is f refused = plain_in before phase.Dot s byte o is (λ same. cc) (taken_err s ((byte == 48) || (byte == 49)) (in_phase s phase.Field) o refused)
within_err phase.Field before s byte o is f refused =
    plain_in before phase.Field s byte o is (λ same. cc) (taken_err s (byte == 44) (in_phase s (phase.Digits 0)) o (chosen_err (byte == 9) (payload_begins s) _ o refused))
within_err (phase.Digits many) before s byte o is f refused =
    plain_in before (phase.Digits many) s byte o is (λ same. cc)
    (taken_err s (nat_lt many 5 && is_digit byte) (in_phase s (phase.Digits (many + 1))) o (chosen_err (nat_lt 0 many && (byte == 9)) (payload_begins s) _ o refused))
within_err phase.Payload before s byte o is f refused = payload_err before s f byte o (line_of phase.Payload before s is f) is (is_whole s.payload.bytes) refl refused
within_err phase.Behind before s byte o is f refused = plain_in before phase.Behind s byte o is (λ same. cc) (taken_err s (is_blank byte) (in_phase s phase.Behind) o refused)
within_err (phase.End gives) before s byte o is f refused = plain_in before (phase.End gives) s byte o is (λ same. cc) (no_line_is s o refused)

-- a line's end
pub lf_err : (s : State) (found : Option Bool) (o : Offence) → ended_by_lf s found ≡ Err o → o ≡ record { back = 0; why = why_in s.phase }
lf_err s (Some gives) o is = absurd (cc)
lf_err s None o is = no_line_is s o is

pub cr_err : (s : State) (found : Option Bool) (o : Offence) → ended_by_cr s found ≡ Err o → o ≡ record { back = 0; why = why_in s.phase }
cr_err s (Some gives) o is = absurd (cc)
cr_err s None o is = no_line_is s o is

pub no_letter_at : (s : State) (byte end : ℕ) → byte ≡ end → ((brought : List ℕ) → letter_bytes end ≡ Some brought → ⊥) → NoLetter s byte
no_letter_at s byte end is none front to brought same digit not_yet letter = none brought (subst (λ (b : ℕ). letter_bytes b ≡ Some brought) is letter)

pub kind_by : (before : List ℕ) (s : State) (byte : ℕ) (o : Offence) (lf cr : Bool) → (byte == 10) ≡ lf → (byte == 13) ≡ cr → Origin before s
    → cond lf (ended_by_lf s (ends_at_lf s.phase (ends s))) (cond cr (ended_by_cr s (ends s)) (within s s.phase byte)) ≡ Err o → Kind before s byte o
kind_by before s byte o true cr lf_is cr_is f is = plain (lf_err s (ends_at_lf s.phase (ends s)) o is) (no_letter_at s byte 10 (eqb-true byte 10 lf_is) (λ brought letter. letter_no_lf brought letter))
kind_by before s byte o false true lf_is cr_is f is = plain (cr_err s (ends s) o is) (no_letter_at s byte 13 (eqb-true byte 13 cr_is) (λ brought letter. letter_no_cr brought letter))
kind_by before s byte o false false lf_is cr_is f is = within_err s.phase before s byte o refl f is

pub kind : (before : List ℕ) (s : State) (byte : ℕ) (o : Offence) → Origin before s → take_byte s byte ≡ Err o → Kind before s byte o
kind before s byte o f is = kind_by before s byte o (byte == 10) (byte == 13) refl refl f is

-- the reason where no line goes on
abbrev pub has_lf : List ℕ → Bool
has_lf [] = false
has_lf (byte ∷ bytes) = (byte == 10) || has_lf bytes

pub why_by : (bytes : List ℕ) → mcc_line_why bytes ≡ cond (has_lf bytes) why.MccSyntax why.Header
why_by [] = refl
why_by (byte ∷ bytes) = elim (cases_Bool (byte == 10)) [
  | inl e ↦ rw e refl
  | inr e ↦ rw e (why_by bytes)
]

pub lf_both : (xs ys : List ℕ) → has_lf (xs ++ ys) ≡ (has_lf xs || has_lf ys)
lf_both [] ys = refl
lf_both (x ∷ xs) ys = elim (cases_Bool (x == 10)) [ inl e ↦ rw e refl | inr e ↦ rw e (lf_both xs ys) ]

pub or_true : (a b : Bool) → b ≡ true → (a || b) ≡ true
or_true true b is = refl
or_true false b is = is

pub or_first : (a b : Bool) → a ≡ true → (a || b) ≡ true
or_first true b is = refl
or_first false b is = absurd (cc)

pub end_lf : (end : List ℕ) → IsLineEnd end → has_lf end ≡ true
end_lf end (inl lf) = ap (λ x. has_lf x) lf
end_lf end (inr cr) = ap (λ x. has_lf x) cr

pub line_has_lf : (before : List ℕ) (s : State) → InLine before s → mcc_line_why before ≡ why.MccSyntax
line_has_lf before s line =
    let inner : has_lf (line.end ++ line.front) ≡ true = lf_both line.end line.front ∙ or_first (has_lf line.end) (has_lf line.front) (end_lf line.end line.is_end) in
    let all : has_lf before ≡ true = ap (λ x. has_lf x) line.spelled ∙ (lf_both line.head (line.end ++ line.front) ∙ or_true (has_lf line.head) (has_lf (line.end ++ line.front)) inner) in
    why_by before ∙ ap (λ (b : Bool). cond b why.MccSyntax why.Header) all

pub no_lf : (xs : List ℕ) → has_lf xs ≡ false → mcc_line_why xs ≡ why.Header
no_lf xs is = why_by xs ∙ ap (λ (b : Bool). cond b why.MccSyntax why.Header) is

pub or_false : (a b : Bool) → (a || b) ≡ false → (a ≡ false) × (b ≡ false)
or_false true b is = absurd (cc)
or_false false b is = (refl, is)

pub first_no_lf : (second : Bool) → has_lf (format_text (version_of second)) ≡ false
first_no_lf false = refl
first_no_lf true = refl

pub spaces_no_lf : (xs : List ℕ) → AreSpaces xs → has_lf xs ≡ false
spaces_no_lf [] are = refl
spaces_no_lf (x ∷ xs) are = rw are.0 (spaces_no_lf xs are.1)

pub in_first_header : (at : ℕ) (before : List ℕ) (s : State) → InFirst at before s → mcc_line_why before ≡ why.Header
in_first_header at before s f =
    let text = format_text (version_of s.two) in
    let both_is : (has_lf (take at text) || has_lf (drop at text)) ≡ false = sym (lf_both (take at text) (drop at text)) ∙ (ap (λ x. has_lf x) (take-append-drop at text) ∙ first_no_lf s.two) in
    no_lf before (ap (λ x. has_lf x) f.spelled ∙ (or_false (has_lf (take at text)) (has_lf (drop at text)) both_is).0)

pub behind_first_header : (end before : List ℕ) (s : State) → BehindFirst end before s → has_lf end ≡ false → mcc_line_why before ≡ why.Header
behind_first_header end before s f none =
    let text = format_text (version_of s.two) in
    no_lf before
    (ap (λ x. has_lf x) f.spelled
    ∙ (lf_both text (f.spaces ++ end) ∙ (ap (λ (b : Bool). b || has_lf (f.spaces ++ end)) (first_no_lf s.two)
    ∙ (lf_both f.spaces end ∙ (ap (λ (b : Bool). b || has_lf end) (spaces_no_lf f.spaces f.are) ∙ none)))))

pub why_at : (p : Phase) (before : List ℕ) (s : State) → s.phase ≡ p → OriginIn p before s → mcc_line_why before ≡ why_in p
why_at (phase.First at) before s is f = in_first_header at before s f
why_at phase.FirstSpaces before s is f = behind_first_header [] before s f refl
why_at phase.FirstEnd before s is f = behind_first_header (13 ∷ []) before s f refl
why_at phase.Start before s is f = line_has_lf before s f
why_at phase.Blank before s is f = line_has_lf before s f
why_at phase.Slash before s is f = line_has_lf before s f
why_at phase.Comment before s is f = line_has_lf before s f
why_at (phase.Name k) before s is f = line_has_lf before s f
why_at phase.Value before s is f = line_has_lf before s f
why_at (phase.Rate text) before s is f = line_has_lf before s f
why_at phase.RateSpaces before s is f = line_has_lf before s f
why_at phase.Time before s is f = line_has_lf before s f
why_at phase.Timed before s is f = line_has_lf before s f
why_at phase.Dot before s is f = line_has_lf before s f
why_at phase.Field before s is f = line_has_lf before s f
why_at (phase.Digits many) before s is f = line_has_lf before s f
why_at phase.Payload before s is f = line_has_lf before s f
why_at phase.Behind before s is f = line_has_lf before s f
why_at (phase.End gives) before s is f = line_has_lf before s f

pub why_is : (before : List ℕ) (s : State) → Origin before s → mcc_line_why before ≡ why_in s.phase
why_is before s f = why_at s.phase before s refl f

-- a byte that ends no unit
pub zero_more : (n : ℕ) → 0 + n ≡ n
zero_more n = omega arith

pub some_none : {A : Type 0} (x : A) → ◌≡◌ {A = Option A} (Some x) None → ⊥
some_none x is = cc

pub plain_no_unit : (before : List ℕ) (s : State) (byte : ℕ) (o : Offence) → run at_first before ≡ Ok s → take_byte s byte ≡ Err o → o.back ≡ 0 → NoLetter s byte
    → (other : Refusal) → EndsUnit (before ++ byte ∷ []) other → ⊥
plain_no_unit before s byte o reaches refused none no_letter other (inl e) =
    let r = time_refused before s byte o other reaches refused e in
    let ten = r.back in
    absurd (omega (arith, none, ten))
plain_no_unit before s byte o reaches refused none no_letter other (inr (inl e)) = elim (item_refused before s byte o other reaches refused e) [
  | by_letter front to brought same digit not_yet letter so ↦ no_letter front to brought same digit not_yet letter
  | by_digits back so ↦ absurd (omega (arith, none, back))
]
plain_no_unit before s byte o reaches refused none no_letter other (inr (inr e)) =
    let r = rate_refused before s byte o other reaches refused e in
    let many = r.back in
    absurd (omega (arith, none, many))

pub refused_as : (before : List ℕ) (s : State) (byte : ℕ) (o : Offence) → run at_first before ≡ Ok s → take_byte s byte ≡ Err o → Kind before s byte o
    → EndsUnit (before ++ byte ∷ []) (refusal_at before o) ⊎ EndsNone before byte (refusal_at before o)
refused_as before s byte o reaches refused (unit ends_it) = inl ends_it
refused_as before s byte o reaches refused (plain same no_letter) =
    let none : o.back ≡ 0 = ap (λ (x : Offence). x.back) same in
    inr
    (record {
      no_unit = plain_no_unit before s byte o reaches refused none no_letter;
      place_is = omega (arith, none);
      why_is = ap (λ (x : Offence). x.why) same ∙ sym (why_is before s (origin before s reaches));
    })

-- with a refused byte something offends
pub refused_offends : (before : List ℕ) (s : State) (byte : ℕ) (o : Offence) → run at_first before ≡ Ok s → take_byte s byte ≡ Err o → IsUnoffendingMcc (before ++ byte ∷ []) → ⊥
refused_offends before s byte o reaches refused good =
    let r = unoffending_runs (before ++ byte ∷ []) good in
    refused_stays at_first before byte [] s r.to o reaches refused r.is

pub stop_offends : (bytes before rest : List ℕ) (s : State) (refusal : Refusal) → bytes ≡ before ++ rest → run at_first before ≡ Ok s → StopsAt s rest (0 + length before) refusal → IsFirstOffence bytes refusal
stop_offends bytes before [] s refusal spelled reaches (none, same) =
    let all : bytes ≡ before = spelled ∙ append-nil before in
    let f = origin before s reaches in
    subst (λ (x : List ℕ). IsFirstOffence x refusal) (sym all)
    (inr
    (record {
      unoffending = unoffending before s f;
      no_file = λ placed file.
          let r = file_run placed before file in
          let to_is : r.to ≡ s = ok_one (run at_first before) r.to s r.is reaches in
          some_none r.gives (sym r.may ∙ (ap (λ (x : State). ends x) to_is ∙ none));
      place_is = ap (λ (x : Refusal). x.place) same ∙ (omega arith);
      why_is = ap (λ (x : Refusal). x.why) same ∙ sym (why_is before s f);
    }))
stop_offends bytes before (byte ∷ rest) s refusal spelled reaches (o, refused, same) =
    let f = origin before s reaches in
    let at : refusal ≡ refusal_at before o = same ∙ ap (λ (n : ℕ). record { place = n - o.back; why = o.why }) (zero_more (length before)) in
    subst (λ (r : Refusal). IsFirstOffence bytes r) (sym at)
    (inl
    (record {
      before = before;
      byte = byte;
      rest = rest;
      spelled = spelled;
      unoffending = unoffending before s f;
      offends = refused_offends before s byte o reaches refused;
      refused = refused_as before s byte o reaches refused (kind before s byte o f refused);
    }))

pub first_offence : (bytes : List ℕ) (refusal : Refusal) → read_file bytes ≡ Err refusal → IsFirstOffence bytes refusal
first_offence bytes refusal is =
    let s = stops 0 at_first bytes refusal is in
    stop_offends bytes s.before s.rest s.to refusal s.spelled s.is s.at

-- and so it is read
pub unit_so : (before : List ℕ) (s : State) (byte : ℕ) (o : Offence) (refusal : Refusal) → run at_first before ≡ Ok s → take_byte s byte ≡ Err o → EndsUnit (before ++ byte ∷ []) refusal
    → RefusedSo before refusal o
unit_so before s byte o refusal reaches refused (inl e) = (time_refused before s byte o refusal reaches refused e).so
unit_so before s byte o refusal reaches refused (inr (inl e)) = elim (item_refused before s byte o refusal reaches refused e) [
  | by_letter front to brought same digit not_yet letter so ↦ so
  | by_digits back so ↦ so
]
unit_so before s byte o refusal reaches refused (inr (inr e)) = (rate_refused before s byte o refusal reaches refused e).so

pub none_so : (before : List ℕ) (s : State) (byte : ℕ) (o : Offence) (refusal : Refusal) → run at_first before ≡ Ok s → Kind before s byte o → EndsNone before byte refusal → RefusedSo before refusal o
none_so before s byte o refusal reaches (unit e) n = absurd (n.no_unit (refusal_at before o) e)
none_so before s byte o refusal reaches (plain same no_letter) n =
    let none : o.back ≡ 0 = ap (λ (x : Offence). x.back) same in
    let place = n.place_is in
    record {
      place = omega (arith, none, place);
      reason = n.why_is ∙ (why_is before s (origin before s reaches) ∙ sym (ap (λ (x : Offence). x.why) same));
    }

pub refused_so : (before : List ℕ) (s : State) (byte : ℕ) (o : Offence) (refusal : Refusal) → run at_first before ≡ Ok s → take_byte s byte ≡ Err o
    → EndsUnit (before ++ byte ∷ []) refusal ⊎ EndsNone before byte refusal → RefusedSo before refusal o
refused_so before s byte o refusal reaches refused (inl e) = unit_so before s byte o refusal reaches refused e
refused_so before s byte o refusal reaches refused (inr n) = none_so before s byte o refusal reaches (kind before s byte o (origin before s reaches) refused) n

pub same_refusal : (refusal : Refusal) (place : ℕ) (reason : Why) → refusal.place ≡ place → refusal.why ≡ reason → refusal ≡ record { place = place; why = reason }
same_refusal refusal place reason at is = rw (← at, ← is) refl

pub byte_is_read : (bytes : List ℕ) (refusal : Refusal) → MccByteOffends bytes refusal → read_file bytes ≡ Err refusal
byte_is_read bytes refusal b =
    let r = unoffending_runs b.before b.unoffending in
    let cases : (x : Result State Offence) → take_byte r.to b.byte ≡ x → read_file bytes ≡ Err refusal =
    elim [
      | Ok next ↦ λ e.
          absurd (b.offends (unoffending (b.before ++ b.byte ∷ []) next (origin (b.before ++ b.byte ∷ []) next (run_more at_first b.before r.to b.byte next r.is e))))
      | Err o ↦ λ e.
          let so = refused_so b.before r.to b.byte o refusal r.is e b.refused in
          let same = same_refusal refusal (length b.before - o.back) o.why so.place so.reason in
          let read = stops_read 0 at_first r.to b.before b.byte b.rest o r.is e in
          let here : 0 + length b.before ≡ length b.before = zero_more (length b.before) in
          ap (λ x. read_file x) b.spelled ∙ (read ∙ (ap (λ (n : ℕ). Err (record { place = n - o.back; why = o.why })) here ∙ ap (λ x. Err x) (sym same)))
    ] in
    cases (take_byte r.to b.byte) refl

pub end_is_read : (bytes : List ℕ) (refusal : Refusal) → MccEndsEarly bytes refusal → read_file bytes ≡ Err refusal
end_is_read bytes refusal e =
    let r = unoffending_runs bytes e.unoffending in
    let f = origin bytes r.to r.is in
    let cases : (x : Option Bool) → ends r.to ≡ x → read_file bytes ≡ Err refusal =
    elim [
      | Some gives ↦ λ may. absurd (e.no_file (placed_with r.to gives) (ended_file bytes r.to gives f may))
      | None ↦ λ may.
          let read = stops_short 0 at_first r.to bytes r.is may in
          let here : 0 + length bytes ≡ length bytes = zero_more (length bytes) in
          let same = same_refusal refusal (length bytes) (why_in r.to.phase) e.place_is (e.why_is ∙ why_is bytes r.to f) in
          read ∙ (ap (λ (n : ℕ). Err (record { place = n; why = why_in r.to.phase })) here ∙ ap (λ x. Err x) (sym same))
    ] in
    cases (ends r.to) refl

pub offence_is_read : (bytes : List ℕ) (refusal : Refusal) → IsFirstOffence bytes refusal → read_file bytes ≡ Err refusal
offence_is_read bytes refusal (inl b) = byte_is_read bytes refusal b
offence_is_read bytes refusal (inr e) = end_is_read bytes refusal e

pub read_err_ok : (x : Result TimedPackets Refusal) (refusal : Refusal) (placed : TimedPackets) → x ≡ Err refusal → x ≡ Ok placed → ⊥
read_err_ok x refusal placed first other = cc

pub read_err_one : (x : Result TimedPackets Refusal) (a b : Refusal) → x ≡ Err a → x ≡ Err b → a ≡ b
read_err_one x a b first second = cc

pub no_offence : (bytes : List ℕ) (refusal : Refusal) (placed : TimedPackets) → IsFirstOffence bytes refusal → IsMccFile placed bytes → ⊥
no_offence bytes refusal placed offence file = read_err_ok (read_file bytes) refusal placed (offence_is_read bytes refusal offence) (file_is_read placed bytes file)

pub one_offence : (bytes : List ℕ) (a b : Refusal) → IsFirstOffence bytes a → IsFirstOffence bytes b → a ≡ b
one_offence bytes a b first second = read_err_one (read_file bytes) a b (offence_is_read bytes a first) (offence_is_read bytes b second)
