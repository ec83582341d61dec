-- A packet's line is read in one go.
use Rattle.std.proofs.Common.{◌≡◌, ℕ, ◌-◌, ◌≤◌, inl, inr, ◌==◌, not, Bool, true, false, List, [], ◌∷◌, ◌++◌, append_assoc, drop, get_or, length, length-append, take, Option, Some, Ok, unwrap_or, refl, ap, sym, ◌∙◌, subst, arith}
use Rattle.std.proofs.Math.Seq.{take-append_seam}
use Rattle.std.proofs.lemmas.List.{take-append-drop}
use Rattle.std.proofs.lemmas.List.Folds.{list_all-append}
use Rattle.time_codes.specs.Texts.{IsTimeText, mark, ones, tens, time_of_text}
use Rattle.time_codes.proofs.TextLemmas.{ones_digit, tens_digit}
use Rattle.time_codes.specs.declared.counting.Counting.{Counting}
use Rattle.time_codes.specs.declared.time_code.TimeCode.{TimeCode}
use Rattle.scc_files.specs.Lines.{IsLineEnd}
use Rattle.mcc_files.specs.Payloads.{IsPayload, Payload, checksum_byte, payload_bytes}
use Rattle.mcc_files.specs.PayloadReading.{Open, nothing_open}
use Rattle.mcc_files.specs.PayloadReaders.{IsBehindPayload, open_of}
use Rattle.mcc_files.proofs.PacketLemmas.{packet_whole}
use Rattle.mcc_files.proofs.ReadLemmas.{under_leads}
use Rattle.mcc_files.proofs.StepLemmas.{at_bytes, leads}
use Rattle.mcc_files.proofs.WriteLemmas.{all_left, one_first}
use Rattle.mcc_files.specs.Lines.{HaveNoLf}
use Rattle.mcc_files.specs.MccFiles.{TimedPackets, frame_after}
use Rattle.mcc_files.specs.Reading.{State, in_phase, judged_frame, payload_begins, payload_in, run, started}
use Rattle.mcc_files.specs.Readers.{IsBehindLine, is_at_start, packet_in, state_of}
use Rattle.mcc_files.specs.declared.phase.Phase.{Phase}
use Rattle.mcc_files.specs.declared.phase.Phase.TheVariants as phase
use Rattle.mcc_files.specs.declared.reader.MccReader.{MccReader}
use Rattle.mcc_files.proofs.FileReads.{end_read}
use Rattle.mcc_files.proofs.FrontLemmas.{time_of_some}
use Rattle.mcc_files.proofs.OriginLemmas.{bytes_again}
use Rattle.mcc_files.proofs.PacketReads.{at_time, digit_byte, in_payload, not_lf, payload_may, payload_run, time_text_read}
use Rattle.mcc_files.proofs.RunLemmas.{run_both, run_one}

-- a line begins
pub at_start : (p : Phase) → true ≡ is_at_start p → p ≡ phase.Start
at_start phase.Start is = refl
at_start p is = absurd (cc)

-- bytes without an LF
both_no_lf : (xs ys : List ℕ) → HaveNoLf xs → HaveNoLf ys → HaveNoLf (xs ++ ys)
both_no_lf xs ys one other = list_all-append (λ byte. not (byte == 10)) xs ys ∙ rw (one, other) refl

mark_no_lf : (semi : Bool) → (mark semi == 10) ≡ false
mark_no_lf true = refl
mark_no_lf false = refl

time_no_lf : (time : TimeCode) (text : List ℕ) → IsTimeText time text → HaveNoLf text
time_no_lf t text is =
    let a = (digit_byte (tens t.h) (tens_digit t.h is.digits.h)).lf in
    let b = (digit_byte (ones t.h) (ones_digit t.h)).lf in
    let c = (digit_byte (tens t.m) (tens_digit t.m is.digits.m)).lf in
    let d = (digit_byte (ones t.m) (ones_digit t.m)).lf in
    let e = (digit_byte (tens t.s) (tens_digit t.s is.digits.s)).lf in
    let f = (digit_byte (ones t.s) (ones_digit t.s)).lf in
    let g = (digit_byte (tens t.f) (tens_digit t.f is.digits.f)).lf in
    let h = (digit_byte (ones t.f) (ones_digit t.f)).lf in
    subst HaveNoLf (sym is.spelled) (rw (a, b, c, d, e, f, mark_no_lf t.drop_frame, g, h) refl)

leads_no_lf : (text : List ℕ) (front to : Open) → leads true front text to → HaveNoLf text
leads_no_lf [] front to is = refl
leads_no_lf (byte ∷ text) front to (next, one, more) = let low = not_lf front next byte one in rw (low) (leads_no_lf text next to more)

-- the bytes of a line
record LineText (time text end : List ℕ) : Type 0 where
  front : List ℕ
  spelled : ((time ++ 9 ∷ []) ++ text) ++ end ≡ front ++ 10 ∷ []
  no_lf : HaveNoLf front

line_text : (time text end : List ℕ) → HaveNoLf time → HaveNoLf text → IsLineEnd end → LineText time text end
line_text time text end one other (inl lf) = record {
  front = (time ++ 9 ∷ []) ++ text;
  spelled = ap (λ e. ((time ++ 9 ∷ []) ++ text) ++ e) lf;
  no_lf = both_no_lf (time ++ 9 ∷ []) text (both_no_lf time (9 ∷ []) one refl) other;
}
line_text time text end one other (inr cr) = record {
  front = ((time ++ 9 ∷ []) ++ text) ++ 13 ∷ [];
  spelled = ap (λ e. ((time ++ 9 ∷ []) ++ text) ++ e) cr ∙ sym (append_assoc ((time ++ 9 ∷ []) ++ text) (13 ∷ []) (10 ∷ []));
  no_lf = both_no_lf ((time ++ 9 ∷ []) ++ text) (13 ∷ []) (both_no_lf (time ++ 9 ∷ []) text (both_no_lf time (9 ∷ []) one refl) other) refl;
}

-- after it
abbrev behind_packet : State → List ℕ → ℕ → Open → State
behind_packet s text frame front = started (in_payload (at_time s text frame) front) true

payload_leads : (payload : Payload) (text : List ℕ) → IsPayload payload text → leads true nothing_open text (at_bytes (payload_bytes payload))
payload_leads payload text is =
    under_leads true payload (checksum_byte payload) text (record { items = is.items; are = is.are; stand_for = is.stand_for; right = λ on. refl })

packet_run : (s : State) (count : Counting) (frame : ℕ) (t : TimeCode) (payload : Payload) (time text end : List ℕ) → IsTimeText t time → s.count ≡ Some count
    → frame_after count (unwrap_or s.last 0) t ≡ Ok frame → IsPayload payload text → IsLineEnd end
    → run (in_phase s phase.Start) (((time ++ 9 ∷ []) ++ text) ++ end) ≡ Ok (behind_packet s time frame (at_bytes (payload_bytes payload)))
packet_run s count frame t payload time text end is_time counted framed is_payload is_end =
    let start = in_phase s phase.Start in
    let at = at_time s time frame in
    let whole = in_payload at (at_bytes (payload_bytes payload)) in
    let first = time_text_read s count frame t time is_time counted framed in
    let tab : run at (9 ∷ []) ≡ Ok (payload_begins at) = run_one at 9 (payload_begins at) refl in
    let body = payload_run text at nothing_open (at_bytes (payload_bytes payload)) (payload_leads payload text is_payload) in
    let last = end_read whole true end (payload_may at (at_bytes (payload_bytes payload)) (packet_whole payload (checksum_byte payload))) is_end in
    let one = run_both start time (9 ∷ []) at (payload_begins at) first tab in
    let two_on = run_both start (time ++ 9 ∷ []) text (payload_begins at) whole one body in
    run_both start ((time ++ 9 ∷ []) ++ text) end whole (started whole true) two_on last

-- a reader stands there
pub record StandsBehind (old : MccReader) (time : List ℕ) (frame : ℕ) (front : Open) (new : MccReader) : Type 0 where
  pub phase_is : new.phase ≡ phase.Start
  pub two_is : new.two ≡ old.two
  pub count_is : new.count ≡ old.count
  pub last_is : new.last ≡ Some frame
  pub text_is : new.text.items ≡ time
  pub payload_is : open_of new.payload ≡ front

same_state : (old new : MccReader) (time : List ℕ) (frame : ℕ) (front : Open) (placed : TimedPackets) → StandsBehind old time frame front new
    → behind_packet (state_of old placed) time frame front ≡ state_of new (placed ++ packet_in new ∷ [])
same_state old new time frame front placed is =
    let t = behind_packet (state_of old placed) time frame front in
    let packet = λ (last : Option ℕ) (payload : Open). placed ++ (unwrap_or last 0, payload_in payload.bytes) ∷ [] in
    ap (λ (p : Phase). record t { phase = p }) (sym is.phase_is)
    ∙ (ap (λ (b : Bool). record t { phase = new.phase; two = b }) (sym is.two_is)
    ∙ (ap (λ (o : Option Counting). record t { phase = new.phase; two = new.two; count = o }) (sym is.count_is)
    ∙ (ap (λ (o : Option ℕ). record t { phase = new.phase; two = new.two; count = new.count; last = o; placed = packet o front }) (sym is.last_is)
    ∙ (ap (λ (x : List ℕ). record t { phase = new.phase; two = new.two; count = new.count; last = new.last; text = x; placed = packet new.last front }) (sym is.text_is)
    ∙ ap (λ (f : Open). record t { phase = new.phase; two = new.two; count = new.count; last = new.last; text = new.text.items; payload = f; placed = packet new.last f })
    (sym is.payload_is)))))

-- the line that was read
pub line_behind : (old new : MccReader) (bytes time text behind after end : List ℕ) (frame count : ℕ) → true ≡ is_at_start old.phase → bytes ≡ time ++ (9 ∷ text)
    → judged_frame old.count old.last (time_of_text time) ≡ Ok frame → (ahead : IsBehindPayload text behind new.payload) → IsLineEnd end → behind ≡ end ++ after
    → StandsBehind old time frame (at_bytes (payload_bytes ahead.payload)) new → count ≡ length bytes - length after → IsBehindLine old bytes count new
line_behind old new bytes time text behind after end frame count begins spelled judged ahead is_end more stands count_is =
    let (t, counting, is_time, counted, framed) = time_of_some time (time_of_text time) refl old.count old.last frame judged in
    let line = ((time ++ 9 ∷ []) ++ ahead.front) ++ end in
    let regroup : line ++ after ≡ time ++ (9 ∷ (ahead.front ++ (end ++ after))) = simp append_assoc in
    let all : bytes ≡ line ++ after =
    spelled ∙ (ap (λ r. time ++ (9 ∷ r)) ahead.spelled ∙ (ap (λ r. time ++ (9 ∷ (ahead.front ++ r))) more ∙ sym regroup)) in
    let long = ap length all ∙ length-append line after in
    let many : count ≡ length line = omega (arith, count_is, long) in
    let taken : take count bytes ≡ line = ap (λ n. take n bytes) many ∙ (ap (λ b. take (length line) b) all ∙ take-append_seam line after) in
    let bytes_are : open_of new.payload ≡ at_bytes (payload_bytes ahead.payload) = stands.payload_is in
    let leads_on = payload_leads ahead.payload ahead.front ahead.is in
    let l = line_text time ahead.front end (time_no_lf t time is_time) (leads_no_lf ahead.front nothing_open (at_bytes (payload_bytes ahead.payload)) leads_on) is_end in
    record {
      front = l.front;
      within = omega (arith, many, long);
      spelled = taken ∙ l.spelled;
      no_lf = l.no_lf;
      goes = λ placed.
          let s = state_of old placed in
          let reads = packet_run s counting frame t ahead.payload time ahead.front end is_time counted framed ahead.is is_end in
          let to = same_state old new time frame (at_bytes (payload_bytes ahead.payload)) placed stands in
          subst (λ (x : List ℕ). run s x ≡ Ok (state_of new (placed ++ packet_in new ∷ []))) (sym taken)
          (subst (λ (p : Phase). run (in_phase s p) line ≡ Ok (state_of new (placed ++ packet_in new ∷ []))) (sym (at_start old.phase begins)) (reads ∙ ap (λ x. Ok x) to));
      whole = bytes_again (open_of new.payload).bytes ahead.payload (ap (λ (f : Open). f.bytes) bytes_are);
      start = stands.phase_is;
    }

-- the front of bytes
pub tab_first : (bytes time rest : List ℕ) → time ≡ take 11 bytes → rest ≡ drop 11 bytes → 1 ≤ length rest → get_or rest 0 0 ≡ 9
    → bytes ≡ time ++ (9 ∷ take (length rest - 1) (drop 1 rest))
tab_first bytes time rest front behind some tab =
    sym (take-append-drop 11 bytes)
    ∙ (ap (λ (t : List ℕ). t ++ drop 11 bytes) (sym front)
    ∙ ap (λ (r : List ℕ). time ++ r) (sym behind ∙ (one_first rest some ∙ (ap (λ b. b ∷ drop 1 rest) tab ∙ ap (λ r. 9 ∷ r) (sym (all_left 1 rest))))))

abbrev pub EndsLineWith : List ℕ → List ℕ → Type 0
EndsLineWith bytes rest = (end : List ℕ) × IsLineEnd end × (bytes ≡ end ++ rest)

pub lf_first : (bytes : List ℕ) → get_or bytes 0 0 ≡ 10 → EndsLineWith bytes (take (length bytes - 1) (drop 1 bytes))
lf_first [] lf = absurd (omega (arith, lf))
lf_first (byte ∷ bytes) lf = (10 ∷ [], inl refl, ap (λ b. b ∷ bytes) lf ∙ ap (λ r. 10 ∷ r) (sym (all_left 1 (byte ∷ bytes))))

two_first : (bytes : List ℕ) → 2 ≤ length bytes → bytes ≡ get_or bytes 0 0 ∷ get_or bytes 1 0 ∷ drop 2 bytes
two_first [] some = absurd (omega arith)
two_first (x ∷ []) some = absurd (omega arith)
two_first (x ∷ y ∷ bytes) some = refl

pub cr_first : (bytes : List ℕ) → 2 ≤ length bytes → get_or bytes 0 0 ≡ 13 → get_or bytes 1 0 ≡ 10 → EndsLineWith bytes (take (length bytes - 2) (drop 2 bytes))
cr_first bytes some cr lf = (
  13 ∷ 10 ∷ [],
  inr refl,
  two_first bytes some
      ∙ (ap (λ b. b ∷ get_or bytes 1 0 ∷ drop 2 bytes) cr ∙ (ap (λ b. 13 ∷ b ∷ drop 2 bytes) lf ∙ ap (λ r. 13 ∷ 10 ∷ r) (sym (all_left 2 bytes)))),
)
