-- What is read of bytes in which nothing offends, and how the units that they end with are refused.
use Rattle.std.proofs.Common.{◌≡◌, ◌≢◌, ℕ, ◌+◌, ◌-◌, ◌*◌, inl, inr, ◌==◌, Bool, true, false, cond, List, [], ◌∷◌, ◌++◌, append_assoc, length, length-append, Option, Some, None, Result, Ok, Err, refl, ap, sym, ◌∙◌, subst, arith, nat_le, unwrap_or}
use Rattle.std.specs.List.{concat}
use Rattle.std.proofs.lemmas.Bool.{cases_Bool, eqb-true}
use Rattle.std.proofs.lemmas.List.{append_cancel_right}
use Rattle.cc_base.specs.declared.refusal.Refusal.{Refusal}
use Rattle.cc_base.specs.declared.why.Why.{Why}
use Rattle.cc_base.specs.declared.why.Why.TheVariants as why
use Rattle.hex_digits.specs.HexDigits.{hex_value}
use Rattle.time_codes.specs.Countings.{day_frames_in, frame_in, frame_number_in, is_time_code_in}
use Rattle.time_codes.specs.Texts.{IsTimeText, ones, text_of}
use Rattle.time_codes.specs.declared.counting.Counting.{Counting}
use Rattle.time_codes.specs.declared.time_code.TimeCode.{TimeCode}
use Rattle.scc_files.specs.Offences.{EndsLine, time_why_by}
use Rattle.mcc_files.specs.Items.{AreDigits, IsLetter}
use Rattle.mcc_files.specs.Letters.{letter_bytes}
use Rattle.mcc_files.specs.PayloadOffences.{IsItemWhy}
use Rattle.mcc_files.specs.Payloads.{Payload, bytes_with, payload_bytes}
use Rattle.mcc_files.specs.PayloadReading.{Open, is_whole, item_ends, joined, nothing_open, step}
use Rattle.mcc_files.specs.declared.payload_reader.Offence.{Offence}
use Rattle.mcc_files.proofs.FirstLemmas.{digit_step, item_why, wrong_ends}
use Rattle.mcc_files.proofs.OneLemmas.{begun_joined, digit_of, why_one}
use Rattle.mcc_files.proofs.ReadLemmas.{items_lead}
use Rattle.mcc_files.proofs.SoundLemmas.{packet_so}
use Rattle.mcc_files.proofs.StepLemmas.{at_bytes}
use Rattle.mcc_files.specs.Lines.{IsReadPast, Line, Version, one, rate, rate_name, two}
use Rattle.mcc_files.specs.Offences.{AwaitsItem, AwaitsTime, BeginsMccFile, EndsInItem, EndsInTime, EndsItem, EndsRate, EndsTime, HasMccRate, IsUnoffendingMcc}
use Rattle.mcc_files.specs.MccFiles.{IsMccFile, day_begins, frame_after, goes_over_midnight, stands_after}
use Rattle.mcc_files.specs.Reading.{State, at_first, ends, ends_at_lf, ends_in, in_phase, or_offends, payload_begins, payload_goes, placed_with, run, take_byte, timed}
use Rattle.mcc_files.specs.declared.phase.Phase.{Phase}
use Rattle.mcc_files.specs.declared.phase.Phase.TheVariants as phase
use Rattle.mcc_files.proofs.FileReads.{file_run, form_read}
use Rattle.mcc_files.proofs.LineReads.{goes_on}
use Rattle.mcc_files.proofs.OriginLemmas.{lf_so}
use Rattle.mcc_files.proofs.Origins.{version_of}
use Rattle.mcc_files.proofs.PacketReads.{at_time, in_payload, in_time, last_read, past_read, payload_goes_on, payload_run, payload_step, ten_of, ten_read}
use Rattle.mcc_files.proofs.RunLemmas.{RunsTo, ok_one, ok_same, run_both, run_front, run_more, run_on, went}
use Rattle.mcc_files.proofs.ToldLemmas.{TellAll, Told, say_told, told_nothing}
use Rattle.mcc_files.proofs.Unoffending.{count_stays, last_same}

-- bytes with which a file begins are read
pub begins_runs : (bytes : List ℕ) → BeginsMccFile bytes → RunsTo at_first bytes
begins_runs bytes b = let f = file_run b.placed (bytes ++ b.more) b.file in run_front at_first bytes b.more f.to f.is

-- lines with the time code rate tell it
pub record TellBoth (t : Told) (xs ys : List Line) (u : Told) : Type 0 where
  pub middle : Told
  pub first : TellAll t xs middle
  pub second : TellAll middle ys u

pub tell_both : (xs ys : List Line) (t u : Told) → TellAll t (xs ++ ys) u → TellBoth t xs ys u
tell_both [] ys t u tell = record { middle = t; first = refl; second = tell }
tell_both (line ∷ xs) ys t u (next, tells, more) =
    let b = tell_both xs ys next u more in
    record { middle = b.middle; first = (next, tells, b.first); second = b.second }

pub rate_counts : (lines : List Line) (t u : Told) (count : Counting) → TellAll t lines u → HasMccRate count lines → u.count ≡ Some count
rate_counts lines t u count tell (before, after, spelled) =
    let b = tell_both before (rate count ∷ after) t u (subst (λ (l : List Line). TellAll t l u) spelled tell) in
    let (next, (no_packet, no_rate, same), more) = b.second in
    count_stays after next u count more (ap (λ x. x.count) same)

-- at the start of a line
pub record AtStart (bytes : List ℕ) : Type 0 where
  pub to : State
  pub is : run at_first bytes ≡ Ok to
  pub start : in_phase to phase.Start ≡ to

pub in_start : (s : State) → s.phase ≡ phase.Start → in_phase s phase.Start ≡ s
in_start s is = ap (λ (p : Phase). in_phase s p) (sym is)

pub line_start : (bytes : List ℕ) (to : State) → run at_first bytes ≡ Ok to → EndsLine bytes → to.phase ≡ phase.Start
line_start bytes to is (front, spelled) =
    let all : run at_first (front ++ 10 ∷ []) ≡ Ok to = subst (λ (b : List ℕ). run at_first b ≡ Ok to) spelled is in
    let f = run_front at_first front (10 ∷ []) to all in
    let last : run f.to (10 ∷ []) ≡ Ok to = sym (run_on at_first front (10 ∷ []) f.to f.is) ∙ all in
    let w = went (take_byte f.to 10) (λ n. Ok n) to last in
    let same : w.next ≡ to = ok_same w.next to w.more in
    let (gives, found, started_is) = lf_so f.to w.next (ends_at_lf f.to.phase (ends f.to)) w.stepped in
    ap (λ (x : State). x.phase) (sym (started_is ∙ same))

pub at_start : (bytes : List ℕ) → BeginsMccFile bytes → EndsLine bytes → AtStart bytes
at_start bytes b line =
    let r = begins_runs bytes b in
    record { to = r.to; is = r.is; start = in_start r.to (line_start bytes r.to r.is line) }

-- where a time code may stand
pub record Awaiting (second : Bool) (count : Counting) (bytes : List ℕ) : Type 0 where
  pub to : State
  pub is : run at_first bytes ≡ Ok to
  pub start : in_phase to phase.Start ≡ to
  pub counted : to.count ≡ Some count
  pub version : to.two ≡ second

pub awaiting_by : (second : Bool) (count : Counting) (bytes : List ℕ) → AwaitsTime (version_of second) count bytes → Awaiting second count bytes
awaiting_by second count bytes a =
    let t = say_told a.lines a.placed a.say in
    let f = form_read second a.lines bytes t.to a.form t.tell in
    let counted = rate_counts a.lines told_nothing t.to count t.tell a.has_rate in
    let told : f.to.count ≡ t.to.count = ap (λ x. x.count) f.told in
    record {
      to = f.to;
      is = f.is;
      start = in_start f.to (line_start bytes f.to f.is a.ends);
      counted = told ∙ counted;
      version = f.version;
    }

pub record AwaitingIn (version : Version) (count : Counting) (bytes : List ℕ) : Type 0 where
  pub second : Bool
  pub version_is : version ≡ version_of second
  pub at : Awaiting second count bytes

pub awaiting : (version : Version) (count : Counting) (bytes : List ℕ) → AwaitsTime version count bytes → AwaitingIn version count bytes
awaiting one count bytes a = record { second = false; version_is = refl; at = awaiting_by false count bytes a }
awaiting two count bytes a = record { second = true; version_is = refl; at = awaiting_by true count bytes a }

-- ten bytes of a time code's text there
pub ten_runs : (second : Bool) (count : Counting) (start text : List ℕ) (t : TimeCode) → (a : Awaiting second count start) → IsTimeText t text → run at_first (start ++ ten_of t) ≡ Ok (in_time a.to (ten_of t))
ten_runs second count start text t a is =
    run_both at_first start (ten_of t) a.to (in_time a.to (ten_of t)) a.is
    (subst (λ (x : State). run x (ten_of t) ≡ Ok (in_time a.to (ten_of t))) a.start (ten_read a.to count t is.digits a.counted))

-- within a time code's text
pub record Within (front ten : List ℕ) : Type 0 where
  pub rest : List ℕ
  pub is : ten ≡ front ++ rest

pub no_back : (xs back : List ℕ) → xs ++ back ≡ [] → back ≡ []
no_back [] back is = is
no_back (x ∷ xs) back is = absurd (cc)

pub front_within : (front back ten : List ℕ) (z : ℕ) → front ++ back ≡ ten ++ z ∷ [] → back ≢ [] → Within front ten
front_within [] back ten z is some = record { rest = ten; is = refl }
front_within (x ∷ front) back [] z is some = let none : front ++ back ≡ [] = cc in absurd (some (no_back front back none))
front_within (x ∷ front) back (y ∷ ten) z is some =
    let tails : front ++ back ≡ ten ++ z ∷ [] = cc in
    let first : x ≡ y = cc in
    let w = front_within front back ten z tails some in
    record { rest = w.rest; is = ap (λ b. b ∷ ten) (sym first) ∙ ap (λ l. x ∷ l) w.is }

pub in_time_runs : (bytes : List ℕ) → EndsInTime bytes → RunsTo at_first bytes
in_time_runs bytes e =
    let a = awaiting e.version e.count e.start e.awaits in
    let w = front_within e.front e.back (ten_of e.time) (ones e.time.f) e.is_text.spelled e.some_back in
    let ten = ten_runs a.second e.count e.start (e.front ++ e.back) e.time a.at e.is_text in
    let texts : e.start ++ ten_of e.time ≡ bytes ++ w.rest =
    ap (λ x. e.start ++ x) w.is ∙ (sym (append_assoc e.start e.front w.rest) ∙ ap (λ x. x ++ w.rest) (sym e.spelled)) in
    run_front at_first bytes w.rest (in_time a.at.to (ten_of e.time)) (subst (λ (x : List ℕ). run at_first x ≡ Ok (in_time a.at.to (ten_of e.time))) texts ten)

pub some_gives : (a b : Bool) → Some a ≡ Some b → a ≡ b
some_gives a b is = cc

-- where an item may stand
pub record AwaitingItem (items : List (List ℕ)) (bytes : List ℕ) : Type 0 where
  pub to : State
  pub is : run at_first bytes ≡ Ok (in_payload to (at_bytes (concat items)))
  pub join : joined true [] (concat items) ≡ Ok (concat items)
  pub not_yet : is_whole (concat items) ≡ false

pub whole_no : (items : List (List ℕ)) → joined true [] (concat items) ≡ Ok (concat items) → ((payload : Payload) → concat items ≡ payload_bytes payload → ⊥) → is_whole (concat items) ≡ false
whole_no items join none = elim (cases_Bool (is_whole (concat items))) [
  | inl e ↦
      let p = packet_so true (concat items) (concat items) join e in
      absurd (none p.payload (p.are ∙ ap (λ c. bytes_with p.payload c) (p.right refl)))
  | inr e ↦ e
]

pub judged_ok : (s : State) (text : List ℕ) (found : Result ℕ Offence) (next : State) → timed s text found ≡ Ok next → (frame : ℕ) × (found ≡ Ok frame)
judged_ok s text (Ok frame) next is = (frame, refl)
judged_ok s text (Err offence) next is = absurd (cc)

pub awaiting_item : (items : List (List ℕ)) (bytes : List ℕ) → AwaitsItem items bytes → AwaitingItem items bytes
awaiting_item items bytes a =
    let w = awaiting a.version a.count a.start a.awaits in
    let s = w.at.to in
    let ten = ten_of a.time in
    let last = ones a.time.f in
    let tail = a.past ++ (9 ∷ a.items_text) in
    let r = begins_runs bytes a.begins in
    let texts : bytes ≡ (a.start ++ ten) ++ (last ∷ tail) =
    a.spelled ∙ (ap (λ x. a.start ++ (x ++ tail)) a.is_text.spelled ∙ (ap (λ x. a.start ++ x) (append_assoc ten (last ∷ []) tail) ∙ sym (append_assoc a.start ten (last ∷ tail)))) in
    let ten_is = ten_runs w.second a.count a.start a.text a.time w.at a.is_text in
    let all : run at_first ((a.start ++ ten) ++ (last ∷ tail)) ≡ Ok r.to = subst (λ (x : List ℕ). run at_first x ≡ Ok r.to) texts r.is in
    let rest : run (in_time s ten) (last ∷ tail) ≡ Ok r.to = sym (run_on at_first (a.start ++ ten) (last ∷ tail) (in_time s ten) ten_is) ∙ all in
    let one_on = went (take_byte (in_time s ten) last) (λ n. run n tail) r.to rest in
    let judged = last_read s a.count a.time a.is_text.digits w.at.counted in
    let (frame, found) = judged_ok (in_time s ten) (text_of a.time) (or_offends (frame_after a.count (unwrap_or s.last 0) a.time)) one_on.next (sym judged ∙ one_on.stepped) in
    let at = at_time s (text_of a.time) frame in
    let step_at : take_byte (in_time s ten) last ≡ Ok at = judged ∙ ap (λ x. timed (in_time s ten) (text_of a.time) x) found in
    let text_run = run_more at_first (a.start ++ ten) (in_time s ten) last at ten_is step_at in
    let past_run = past_read w.second at a.past w.at.version (subst (λ (v : Version). IsReadPast v a.past) w.version_is a.is_past) in
    let join = begun_joined items a.items_text a.are a.begins_payload in
    let lead = items_lead true [] (concat items) items a.items_text a.are join in
    let items_run = payload_run a.items_text at nothing_open (at_bytes (concat items)) lead in
    let both_run = run_both at_first ((a.start ++ ten) ++ last ∷ []) (a.past ++ 9 ∷ []) at (payload_begins at) text_run past_run in
    let whole_run = run_both at_first (((a.start ++ ten) ++ last ∷ []) ++ (a.past ++ 9 ∷ [])) a.items_text (payload_begins at) (in_payload at (at_bytes (concat items))) both_run items_run in
    let spelled : (((a.start ++ ten) ++ last ∷ []) ++ (a.past ++ 9 ∷ [])) ++ a.items_text ≡ bytes =
    append_assoc ((a.start ++ ten) ++ last ∷ []) (a.past ++ 9 ∷ []) a.items_text
    ∙ (ap (λ x. ((a.start ++ ten) ++ last ∷ []) ++ x) (append_assoc a.past (9 ∷ []) a.items_text) ∙ (append_assoc (a.start ++ ten) (last ∷ []) tail ∙ sym texts)) in
    record {
      to = at;
      is = subst (λ (x : List ℕ). run at_first x ≡ Ok (in_payload at (at_bytes (concat items)))) spelled whole_run;
      join = join;
      not_yet = whole_no items join (λ payload stand. a.not_yet payload (record { items = items; are = a.are; stand_for = stand }));
    }

-- the packets of the lines before it are those that were read
pub item_placed : (items : List (List ℕ)) (bytes : List ℕ) (a : AwaitsItem items bytes) → (awaiting_item items bytes a).to.placed ≡ a.awaits.placed
unfolding awaiting_item
item_placed items bytes a =
    let w = awaiting a.version a.count a.start a.awaits in
    let file : IsMccFile a.awaits.placed a.start = record { version = a.version; lines = a.awaits.lines; form = a.awaits.form; say = a.awaits.say } in
    let f = file_run a.awaits.placed a.start file in
    let same : f.to ≡ w.at.to = ok_one (run at_first a.start) f.to w.at.to f.is w.at.is in
    let starts : w.at.to.phase ≡ phase.Start = line_start a.start w.at.to w.at.is a.awaits.ends in
    let may : ends w.at.to ≡ Some false = ap (λ (p : Phase). ends_in p w.at.to.payload.bytes) starts in
    let none : f.gives ≡ false = some_gives f.gives false (sym f.may ∙ (ap (λ (x : State). ends x) same ∙ may)) in
    ap (λ (x : State). x.placed) (sym same) ∙ (sym (ap (λ (g : Bool). placed_with f.to g) none) ∙ f.all)

-- after the first digit of one
pub digit_runs : (items : List (List ℕ)) (start : List ℕ) (digit high : ℕ) (a : AwaitingItem items start) → hex_value digit ≡ Some high
    → run at_first (start ++ digit ∷ []) ≡ Ok (in_payload a.to (record { digit = Some high; bytes = concat items }))
digit_runs items start digit high a is =
    run_more at_first start (in_payload a.to (at_bytes (concat items))) digit (in_payload a.to (record { digit = Some high; bytes = concat items })) a.is
    (payload_step a.to (at_bytes (concat items)) (record { digit = Some high; bytes = concat items }) digit (digit_step true (concat items) digit high is a.not_yet))

pub in_item_runs : (bytes : List ℕ) → EndsInItem bytes → RunsTo at_first bytes
in_item_runs bytes e =
    let a = awaiting_item e.items e.start e.awaits in
    let (high, is) = digit_of e.digit (hex_value e.digit) refl e.is_digit in
    let runs = digit_runs e.items e.start e.digit high a is in
    record { to = in_payload a.to (record { digit = Some high; bytes = concat e.items }); is = subst (λ (x : List ℕ). run at_first x ≡ Ok (in_payload a.to (record { digit = Some high; bytes = concat e.items }))) (sym e.spelled) runs }

-- what offends in nothing is read
pub unoffending_runs : (bytes : List ℕ) → IsUnoffendingMcc bytes → RunsTo at_first bytes
unoffending_runs bytes (inl b) = begins_runs bytes b
unoffending_runs bytes (inr (inl e)) = in_time_runs bytes e
unoffending_runs bytes (inr (inr e)) = in_item_runs bytes e

-- how a unit is refused
pub record RefusedSo (before : List ℕ) (refusal : Refusal) (o : Offence) : Type 0 where
  pub place : refusal.place ≡ length before - o.back
  pub reason : refusal.why ≡ o.why

-- a time code
pub err_same : (a b : Offence) → ◌≡◌ {A = Result State Offence} (Err a) (Err b) → a ≡ b
err_same a b is = cc

pub frame_why : (count : Counting) (t : TimeCode) (test : Bool) (reason : Why) → cond {A = Result ℕ Why} test (Ok (frame_number_in count t)) (Err why.NoSuchTime) ≡ Err reason → reason ≡ why.NoSuchTime
frame_why count t true reason is = absurd (cc)
frame_why count t false reason is = cc

pub before_why_by : (late midnight : Bool) (at over : ℕ) (o : Offence)
    → or_offends (cond {A = Result ℕ Why} late (Ok at) (cond {A = Result ℕ Why} midnight (Ok over) (Err why.Backwards))) ≡ Err o → (o.back ≡ 10) × (o.why ≡ why.Backwards)
before_why_by true midnight at over o is = absurd (cc)
before_why_by false true at over o is = absurd (cc)
before_why_by false false at over o is = let same : record { back = 10; why = why.Backwards } ≡ o = cc in (ap (λ (x : Offence). x.back) (sym same), ap (λ (x : Offence). x.why) (sym same))

pub before_why : (count : Counting) (t : TimeCode) (last : ℕ) (found : Result ℕ Why) (o : Offence) → frame_in count t ≡ found → or_offends (stands_after count last t found) ≡ Err o
    → (o.back ≡ 10) × (o.why ≡ time_why_by found)
before_why count t last (Ok frame) o found is = before_why_by (nat_le last (day_begins count last + frame)) (goes_over_midnight count last t) (day_begins count last + frame) (day_frames_in count + frame) o is
before_why count t last (Err reason) o found is =
    let same : record { back = 10; why = reason } ≡ o = cc in
    (ap (λ (x : Offence). x.back) (sym same), ap (λ (x : Offence). x.why) (sym same) ∙ frame_why count t (is_time_code_in count t) reason found)

pub timed_err : (s : State) (text : List ℕ) (found : Result ℕ Offence) (o : Offence) → timed s text found ≡ Err o → found ≡ Err o
timed_err s text (Ok frame) o is = absurd (cc)
timed_err s text (Err other) o is = ap (λ x. Err x) (err_same other o is)

pub record TimeRefused (before : List ℕ) (refusal : Refusal) (o : Offence) : Type 0 where
  pub back : o.back ≡ 10
  pub so : RefusedSo before refusal o

pub time_refused : (before : List ℕ) (s : State) (byte : ℕ) (o : Offence) (refusal : Refusal) → run at_first before ≡ Ok s → take_byte s byte ≡ Err o → EndsTime (before ++ byte ∷ []) refusal
    → TimeRefused before refusal o
time_refused before s byte o refusal reaches refused e =
    let a = awaiting e.version e.count e.start e.awaits in
    let ten = ten_of e.time in
    let last = ones e.time.f in
    let texts : before ++ byte ∷ [] ≡ (e.start ++ ten) ++ last ∷ [] = e.spelled ∙ (ap (λ x. e.start ++ x) e.is_text.spelled ∙ sym (append_assoc e.start ten (last ∷ []))) in
    let bytes : byte ≡ last = last_same before (e.start ++ ten) byte last texts in
    let fronts : before ≡ e.start ++ ten = append_cancel_right before (e.start ++ ten) (last ∷ []) (ap (λ b. before ++ b ∷ []) (sym bytes) ∙ texts) in
    let ten_is = ten_runs a.second e.count e.start e.text e.time a.at e.is_text in
    let same : s ≡ in_time a.at.to ten =
    ok_one (run at_first before) s (in_time a.at.to ten) reaches (subst (λ (x : List ℕ). run at_first x ≡ Ok (in_time a.at.to ten)) (sym fronts) ten_is) in
    let judged = last_read a.at.to e.count e.time e.is_text.digits a.at.counted in
    let refused' : take_byte (in_time a.at.to ten) last ≡ Err o = subst (λ (x : State). take_byte x last ≡ Err o) same (subst (λ (b : ℕ). take_byte s b ≡ Err o) bytes refused) in
    let found = timed_err (in_time a.at.to ten) (text_of e.time) (or_offends (frame_after e.count (unwrap_or a.at.to.last 0) e.time)) o (sym judged ∙ refused') in
    let (back, reason) = before_why e.count e.time (unwrap_or a.at.to.last 0) (frame_in e.count e.time) o refl found in
    let long : length before ≡ length e.start + 10 = ap (λ x. length x) fronts ∙ length-append e.start ten in
    let place = e.place_is in
    record { back = back; so = record { place = omega (arith, long, back, place); reason = e.why_is ∙ sym reason } }

-- the time code rate
pub record RateRefused (before : List ℕ) (refusal : Refusal) (o : Offence) : Type 0 where
  pub back : o.back ≡ 14
  pub so : RefusedSo before refusal o

abbrev pub starting : State → Option ℕ → State
starting s last = record s { phase = phase.Start; last = last }

abbrev pub rate_named : State → Option Counting → State
rate_named s count = record s { phase = phase.Name 14; count = count; last = None }

pub name_read_by : (s z : State) (last : Option ℕ) → run (starting s last) rate_name ≡ Ok z → rate_named s s.count ≡ z
name_read_by s z None is = ok_same (rate_named s s.count) z is
name_read_by s z (Some frame) is = absurd (cc)

pub rate_err : (s : State) (count : Option Counting) (o : Offence) → take_byte (rate_named s count) 61 ≡ Err o → o ≡ record { back = 14; why = why.MccSyntax }
rate_err s None o is = absurd (cc)
rate_err s (Some count) o is = sym (err_same (record { back = 14; why = why.MccSyntax }) o is)

pub rate_refused : (before : List ℕ) (s : State) (byte : ℕ) (o : Offence) (refusal : Refusal) → run at_first before ≡ Ok s → take_byte s byte ≡ Err o → EndsRate (before ++ byte ∷ []) refusal
    → RateRefused before refusal o
rate_refused before s byte o refusal reaches refused e =
    let a = at_start e.start e.begins e.ends in
    let texts : before ++ byte ∷ [] ≡ (e.start ++ rate_name) ++ 61 ∷ [] = e.spelled ∙ sym (append_assoc e.start rate_name (61 ∷ [])) in
    let bytes : byte ≡ 61 = last_same before (e.start ++ rate_name) byte 61 texts in
    let fronts : before ≡ e.start ++ rate_name = append_cancel_right before (e.start ++ rate_name) (61 ∷ []) (ap (λ b. before ++ b ∷ []) (sym bytes) ∙ texts) in
    let all : run at_first (e.start ++ rate_name) ≡ Ok s = subst (λ (x : List ℕ). run at_first x ≡ Ok s) fronts reaches in
    let name : run a.to rate_name ≡ Ok s = sym (run_on at_first e.start rate_name a.to a.is) ∙ all in
    let same : rate_named a.to a.to.count ≡ s = name_read_by a.to s a.to.last (subst (λ (x : State). run x rate_name ≡ Ok s) (sym a.start) name) in
    let refused' : take_byte (rate_named a.to a.to.count) 61 ≡ Err o = subst (λ (x : State). take_byte x 61 ≡ Err o) (sym same) (subst (λ (b : ℕ). take_byte s b ≡ Err o) bytes refused) in
    let o_is = rate_err a.to a.to.count o refused' in
    let back : o.back ≡ 14 = ap (λ (x : Offence). x.back) o_is in
    let long : length before ≡ length e.start + 14 = ap (λ x. length x) fronts ∙ length-append e.start rate_name in
    let place = e.place_is in
    record { back = back; so = record { place = omega (arith, long, back, place); reason = e.why_is ∙ sym (ap (λ (x : Offence). x.why) o_is) } }

-- an item
pub data ItemRefused (before : List ℕ) (s : State) (byte : ℕ) (refusal : Refusal) (o : Offence) : Type 0 where
  by_letter : (front : Open) (to : State) (brought : List ℕ) → s ≡ in_payload to front → front.digit ≡ None → is_whole front.bytes ≡ false → letter_bytes byte ≡ Some brought → RefusedSo before refusal o
      → ItemRefused before s byte refusal o
  by_digits : o.back ≡ 1 → RefusedSo before refusal o → ItemRefused before s byte refusal o

pub goes_err : (s : State) (found : Result Open Offence) (o : Offence) → payload_goes s found ≡ Err o → found ≡ Err o
goes_err s (Ok front) o is = absurd (cc)
goes_err s (Err other) o is = ap (λ x. Err x) (err_same other o is)

pub letter_steps : (bytes brought : List ℕ) (byte : ℕ) → letter_bytes byte ≡ Some brought → is_whole bytes ≡ false → step true (at_bytes bytes) byte ≡ item_ends 0 (joined true bytes brought)
letter_steps bytes brought byte letter not_yet = rw (not_yet, letter) refl

pub digit_steps : (bytes : List ℕ) (high low byte : ℕ) → hex_value byte ≡ Some low → is_whole bytes ≡ false
    → step true (record { digit = Some high; bytes = bytes }) byte ≡ item_ends 1 (joined true bytes ((16 * high + low) ∷ []))
digit_steps bytes high low byte digit not_yet = rw (not_yet, digit) refl

pub letter_no_lf : (brought : List ℕ) → letter_bytes 10 ≡ Some brought → ⊥
letter_no_lf brought is = cc

pub letter_no_cr : (brought : List ℕ) → letter_bytes 13 ≡ Some brought → ⊥
letter_no_cr brought is = cc

pub digit_no_lf : (low : ℕ) → hex_value 10 ≡ Some low → ⊥
digit_no_lf low is = cc

pub digit_no_cr : (low : ℕ) → hex_value 13 ≡ Some low → ⊥
digit_no_cr low is = cc

pub not_same : (byte other : ℕ) → (byte ≡ other → ⊥) → (byte == other) ≡ false
not_same byte other differs = elim (cases_Bool (byte == other)) [ inl e ↦ absurd (differs (eqb-true byte other e)) | inr e ↦ e ]

pub letter_takes : (to : State) (bytes brought : List ℕ) (byte : ℕ) → letter_bytes byte ≡ Some brought → is_whole bytes ≡ false
    → take_byte (in_payload to (at_bytes bytes)) byte ≡ payload_goes (in_payload to (at_bytes bytes)) (item_ends 0 (joined true bytes brought))
letter_takes to bytes brought byte letter not_yet =
    goes_on (in_payload to (at_bytes bytes)) byte (payload_goes (in_payload to (at_bytes bytes)) (item_ends 0 (joined true bytes brought)))
    (not_same byte 10 (λ same. letter_no_lf brought (subst (λ (b : ℕ). letter_bytes b ≡ Some brought) same letter)))
    (not_same byte 13 (λ same. letter_no_cr brought (subst (λ (b : ℕ). letter_bytes b ≡ Some brought) same letter)))
    (payload_goes_on to (at_bytes bytes) byte (item_ends 0 (joined true bytes brought)) not_yet (letter_steps bytes brought byte letter not_yet))

pub digit_takes : (to : State) (bytes : List ℕ) (high low byte : ℕ) → hex_value byte ≡ Some low → is_whole bytes ≡ false
    → take_byte (in_payload to (record { digit = Some high; bytes = bytes })) byte
    ≡ payload_goes (in_payload to (record { digit = Some high; bytes = bytes })) (item_ends 1 (joined true bytes ((16 * high + low) ∷ [])))
digit_takes to bytes high low byte digit not_yet =
    let front : Open = record { digit = Some high; bytes = bytes } in
    goes_on (in_payload to front) byte (payload_goes (in_payload to front) (item_ends 1 (joined true bytes ((16 * high + low) ∷ []))))
    (not_same byte 10 (λ same. digit_no_lf low (subst (λ (b : ℕ). hex_value b ≡ Some low) same digit)))
    (not_same byte 13 (λ same. digit_no_cr low (subst (λ (b : ℕ). hex_value b ≡ Some low) same digit)))
    (payload_goes_on to front byte (item_ends 1 (joined true bytes ((16 * high + low) ∷ []))) not_yet (digit_steps bytes high low byte digit not_yet))

pub letter_refused : (before : List ℕ) (s : State) (byte : ℕ) (o : Offence) (refusal : Refusal) → run at_first before ≡ Ok s → take_byte s byte ≡ Err o
    → (e : EndsItem (before ++ byte ∷ []) refusal) → IsLetter e.brought e.item → ItemRefused before s byte refusal o
letter_refused before s byte o refusal reaches refused e l =
    let a = awaiting_item e.items e.start e.awaits in
    let bytes = concat e.items in
    let texts : before ++ byte ∷ [] ≡ e.start ++ l.letter ∷ [] = e.spelled ∙ ap (λ x. e.start ++ x) l.spelled in
    let letters : byte ≡ l.letter = last_same before e.start byte l.letter texts in
    let fronts : before ≡ e.start = append_cancel_right before e.start (l.letter ∷ []) (ap (λ b. before ++ b ∷ []) (sym letters) ∙ texts) in
    let same : s ≡ in_payload a.to (at_bytes bytes) =
    ok_one (run at_first before) s (in_payload a.to (at_bytes bytes)) reaches (subst (λ (x : List ℕ). run at_first x ≡ Ok (in_payload a.to (at_bytes bytes))) (sym fronts) a.is) in
    let letter : letter_bytes byte ≡ Some e.brought = subst (λ (b : ℕ). letter_bytes b ≡ Some e.brought) (sym letters) l.is in
    let refused' : take_byte (in_payload a.to (at_bytes bytes)) byte ≡ Err o = subst (λ (x : State). take_byte x byte ≡ Err o) same refused in
    let found = goes_err (in_payload a.to (at_bytes bytes)) (item_ends 0 (joined true bytes e.brought)) o (sym (letter_takes a.to bytes e.brought byte letter a.not_yet) ∙ refused') in
    let w = wrong_ends 0 (joined true bytes e.brought) o found in
    let reason = why_one bytes e.brought refusal.why w.0 e.why_is (item_why bytes e.brought w.0 a.join w.1) in
    let back : o.back ≡ 0 = ap (λ (x : Offence). x.back) w.2 in
    let long : length before ≡ length e.start = ap (λ x. length x) fronts in
    let place = e.place_is in
    by_letter (at_bytes bytes) a.to e.brought same refl a.not_yet letter (record { place = omega (arith, long, back, place); reason = reason ∙ sym (ap (λ (x : Offence). x.why) w.2) })

pub digits_refused : (before : List ℕ) (s : State) (byte : ℕ) (o : Offence) (refusal : Refusal) → run at_first before ≡ Ok s → take_byte s byte ≡ Err o
    → (e : EndsItem (before ++ byte ∷ []) refusal) → AreDigits e.brought e.item → ItemRefused before s byte refusal o
digits_refused before s byte o refusal reaches refused e d =
    let a = awaiting_item e.items e.start e.awaits in
    let bytes = concat e.items in
    let runs = digit_runs e.items e.start d.high d.first a d.high_is in
    let front : Open = record { digit = Some d.first; bytes = bytes } in
    let texts : before ++ byte ∷ [] ≡ (e.start ++ d.high ∷ []) ++ d.low ∷ [] =
    e.spelled ∙ (ap (λ x. e.start ++ x) d.spelled ∙ sym (append_assoc e.start (d.high ∷ []) (d.low ∷ []))) in
    let lows : byte ≡ d.low = last_same before (e.start ++ d.high ∷ []) byte d.low texts in
    let fronts : before ≡ e.start ++ d.high ∷ [] = append_cancel_right before (e.start ++ d.high ∷ []) (d.low ∷ []) (ap (λ b. before ++ b ∷ []) (sym lows) ∙ texts) in
    let same : s ≡ in_payload a.to front =
    ok_one (run at_first before) s (in_payload a.to front) reaches (subst (λ (x : List ℕ). run at_first x ≡ Ok (in_payload a.to front)) (sym fronts) runs) in
    let digit : hex_value byte ≡ Some d.second = subst (λ (b : ℕ). hex_value b ≡ Some d.second) (sym lows) d.low_is in
    let refused' : take_byte (in_payload a.to front) byte ≡ Err o = subst (λ (x : State). take_byte x byte ≡ Err o) same refused in
    let brought = (16 * d.first + d.second) ∷ [] in
    let found = goes_err (in_payload a.to front) (item_ends 1 (joined true bytes brought)) o (sym (digit_takes a.to bytes d.first d.second byte digit a.not_yet) ∙ refused') in
    let w = wrong_ends 1 (joined true bytes brought) o found in
    let told : IsItemWhy bytes brought refusal.why = subst (λ (x : List ℕ). IsItemWhy bytes x refusal.why) d.are e.why_is in
    let reason = why_one bytes brought refusal.why w.0 told (item_why bytes brought w.0 a.join w.1) in
    let back : o.back ≡ 1 = ap (λ (x : Offence). x.back) w.2 in
    let long : length before ≡ length e.start + 1 = ap (λ x. length x) fronts ∙ length-append e.start (d.high ∷ []) in
    let place = e.place_is in
    by_digits back (record { place = omega (arith, long, back, place); reason = reason ∙ sym (ap (λ (x : Offence). x.why) w.2) })

pub item_refused : (before : List ℕ) (s : State) (byte : ℕ) (o : Offence) (refusal : Refusal) → run at_first before ≡ Ok s → take_byte s byte ≡ Err o → EndsItem (before ++ byte ∷ []) refusal
    → ItemRefused before s byte refusal o
item_refused before s byte o refusal reaches refused e = elim e.is_item [
  | inl d ↦ digits_refused before s byte o refusal reaches refused e d
  | inr l ↦ letter_refused before s byte o refusal reaches refused e l
]
