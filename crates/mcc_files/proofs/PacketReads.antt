-- The lines of packets are read.
use Rattle.std.proofs.Common.{◌≡◌, ℕ, ◌+◌, ◌≤◌, ◌<◌, ◌⊎◌, inl, inr, ⊎_elim, ◌==◌, ◌&&◌, nat_lt, Bool, true, false, List, [], ◌∷◌, ◌++◌, append_assoc, length, Option, Some, Result, Ok, unwrap_or, refl, ap, sym, ◌∙◌, subst, arith}
use Rattle.std.proofs.lemmas.Bool.{cases_Bool, eqb-true}
use Rattle.std.proofs.lemmas.Grind.{common_steps}
use Rattle.time_codes.specs.Texts.{HasTwoDigits, IsTimeText, is_digit, mark, ones, tens, text_of, time_of_text}
use Rattle.time_codes.proofs.TextLemmas.{both, ones_digit, spelled_is_read, tens_digit}
use Rattle.time_codes.specs.declared.counting.Counting.{Counting}
use Rattle.time_codes.specs.declared.time_code.TimeCode.{TimeCode}
use Rattle.scc_files.specs.Lines.{AreBlanks}
use Rattle.scc_files.specs.Phases.{is_blank}
use Rattle.mcc_files.specs.Payloads.{Payload, checksum_byte, payload_bytes}
use Rattle.mcc_files.specs.PayloadReading.{Open, is_whole, nothing_open, step, stepped}
use Rattle.mcc_files.specs.declared.payload_reader.Offence.{Offence}
use Rattle.mcc_files.proofs.PacketLemmas.{packet_whole}
use Rattle.mcc_files.proofs.ReadLemmas.{under_leads}
use Rattle.mcc_files.proofs.SoundLemmas.{as_first, as_letter, as_second, open_so, step_so}
use Rattle.mcc_files.proofs.StepLemmas.{at_bytes, leads}
use Rattle.mcc_files.specs.Lines.{AreDecimals, IsFieldPart, IsPacketLine, IsReadPast, is_letter}
use Rattle.mcc_files.specs.Reading.{State, begins_time, begun, ends, in_phase, judged_frame, or_offends, payload_begins, payload_goes, payload_read, run, take_byte, timed, within}
use Rattle.mcc_files.specs.declared.phase.Phase.TheVariants as phase
use Rattle.mcc_files.proofs.LineReads.{LineReads, blank_is, goes_on, step_run}
use Rattle.mcc_files.proofs.OriginLemmas.{told_packet}
use Rattle.mcc_files.proofs.Origins.{told_of, version_of}
use Rattle.mcc_files.proofs.RunLemmas.{run_both, run_more}
use Rattle.mcc_files.proofs.ToldLemmas.{Told}
use Rattle.mcc_files.specs.MccFiles.{frame_after}

-- digits of a time code's text
pub record IsDigitByte (byte : ℕ) : Type 0 where
  pub lf : (byte == 10) ≡ false
  pub cr : (byte == 13) ≡ false
  pub tab : (byte == 9) ≡ false
  pub space : (byte == 32) ≡ false
  pub slash : (byte == 47) ≡ false
  pub letter : is_letter byte ≡ false
  pub digit : is_digit byte ≡ true

pub digit_byte : (byte : ℕ) → is_digit byte ≡ true → IsDigitByte byte
digit_byte byte is = record {
  lf = grind (arith, common_steps);
  cr = grind (arith, common_steps);
  tab = grind (arith, common_steps);
  space = grind (arith, common_steps);
  slash = grind (arith, common_steps);
  letter = grind (arith, common_steps);
  digit = is;
}

-- within a time code's text
abbrev pub in_time : State → List ℕ → State
in_time s text = record s { phase = phase.Time; text = text }

pub time_goes : (s : State) (text : List ℕ) (byte : ℕ) → (length (text ++ byte ∷ []) == 11) ≡ false → begins_time (text ++ byte ∷ []) ≡ true
    → within (in_time s text) phase.Time byte ≡ Ok (in_time s (text ++ byte ∷ []))
time_goes s text byte short begins = rw (short, begins) refl

pub time_step : (s : State) (text : List ℕ) (byte : ℕ) → (byte == 10) ≡ false → (byte == 13) ≡ false → (length (text ++ byte ∷ []) == 11) ≡ false → begins_time (text ++ byte ∷ []) ≡ true
    → take_byte (in_time s text) byte ≡ Ok (in_time s (text ++ byte ∷ []))
time_step s text byte lf cr short begins = goes_on (in_time s text) byte (Ok (in_time s (text ++ byte ∷ []))) lf cr (time_goes s text byte short begins)

pub time_first : (s : State) (byte : ℕ) (count : Counting) → IsDigitByte byte → s.count ≡ Some count → begun (in_phase s phase.Start) byte ≡ Ok (in_time s (byte ∷ []))
time_first s byte count d counted = rw (d.tab, d.space, d.slash, d.letter, d.digit, counted) refl

pub time_begun : (s : State) (byte : ℕ) (count : Counting) → is_digit byte ≡ true → s.count ≡ Some count → take_byte (in_phase s phase.Start) byte ≡ Ok (in_time s (byte ∷ []))
time_begun s byte count is counted =
    let d = digit_byte byte is in
    goes_on (in_phase s phase.Start) byte (Ok (in_time s (byte ∷ []))) d.lf d.cr (time_first s byte count d counted)

module _ (s : State) (count : Counting) (counted : s.count ≡ Some count) (a b c d e f g : ℕ) (is_a : is_digit a ≡ true) (is_b : is_digit b ≡ true) (is_c : is_digit c ≡ true)
    (is_d : is_digit d ≡ true) (is_e : is_digit e ≡ true) (is_f : is_digit f ≡ true) (is_g : is_digit g ≡ true) where
  pub more_digit : (text : List ℕ) (byte : ℕ) → is_digit byte ≡ true → run (in_phase s phase.Start) text ≡ Ok (in_time s text) → (length (text ++ byte ∷ []) == 11) ≡ false
      → begins_time (text ++ byte ∷ []) ≡ true → run (in_phase s phase.Start) (text ++ byte ∷ []) ≡ Ok (in_time s (text ++ byte ∷ []))
  more_digit text byte is before short begins =
      let x = digit_byte byte is in
      run_more (in_phase s phase.Start) text (in_time s text) byte (in_time s (text ++ byte ∷ [])) before (time_step s text byte x.lf x.cr short begins)

  pub more_mark : (text : List ℕ) (byte : ℕ) → (byte == 10) ≡ false → (byte == 13) ≡ false → run (in_phase s phase.Start) text ≡ Ok (in_time s text)
      → (length (text ++ byte ∷ []) == 11) ≡ false → begins_time (text ++ byte ∷ []) ≡ true → run (in_phase s phase.Start) (text ++ byte ∷ []) ≡ Ok (in_time s (text ++ byte ∷ []))
  more_mark text byte lf cr before short begins =
      run_more (in_phase s phase.Start) text (in_time s text) byte (in_time s (text ++ byte ∷ [])) before (time_step s text byte lf cr short begins)

  pub one_run : run (in_phase s phase.Start) (a ∷ []) ≡ Ok (in_time s (a ∷ []))
  one_run = step_run (in_phase s phase.Start) (in_time s (a ∷ [])) (in_time s (a ∷ [])) a [] (time_begun s a count is_a counted) refl

  pub two_run : run (in_phase s phase.Start) (a ∷ b ∷ []) ≡ Ok (in_time s (a ∷ b ∷ []))
  two_run = more_digit (a ∷ []) b is_b one_run refl (rw (is_a, is_b) refl)

  pub three_run : run (in_phase s phase.Start) (a ∷ b ∷ 58 ∷ []) ≡ Ok (in_time s (a ∷ b ∷ 58 ∷ []))
  three_run = more_mark (a ∷ b ∷ []) 58 refl refl two_run refl (rw (is_a, is_b) refl)

  pub four_run : run (in_phase s phase.Start) (a ∷ b ∷ 58 ∷ c ∷ []) ≡ Ok (in_time s (a ∷ b ∷ 58 ∷ c ∷ []))
  four_run = more_digit (a ∷ b ∷ 58 ∷ []) c is_c three_run refl (rw (is_a, is_b, is_c) refl)

  pub five_run : run (in_phase s phase.Start) (a ∷ b ∷ 58 ∷ c ∷ d ∷ []) ≡ Ok (in_time s (a ∷ b ∷ 58 ∷ c ∷ d ∷ []))
  five_run = more_digit (a ∷ b ∷ 58 ∷ c ∷ []) d is_d four_run refl (rw (is_a, is_b, is_c, is_d) refl)

  pub six_run : run (in_phase s phase.Start) (a ∷ b ∷ 58 ∷ c ∷ d ∷ 58 ∷ []) ≡ Ok (in_time s (a ∷ b ∷ 58 ∷ c ∷ d ∷ 58 ∷ []))
  six_run = more_mark (a ∷ b ∷ 58 ∷ c ∷ d ∷ []) 58 refl refl five_run refl (rw (is_a, is_b, is_c, is_d) refl)

  pub seven_run : run (in_phase s phase.Start) (a ∷ b ∷ 58 ∷ c ∷ d ∷ 58 ∷ e ∷ []) ≡ Ok (in_time s (a ∷ b ∷ 58 ∷ c ∷ d ∷ 58 ∷ e ∷ []))
  seven_run = more_digit (a ∷ b ∷ 58 ∷ c ∷ d ∷ 58 ∷ []) e is_e six_run refl (rw (is_a, is_b, is_c, is_d, is_e) refl)

  pub eight_run : run (in_phase s phase.Start) (a ∷ b ∷ 58 ∷ c ∷ d ∷ 58 ∷ e ∷ f ∷ []) ≡ Ok (in_time s (a ∷ b ∷ 58 ∷ c ∷ d ∷ 58 ∷ e ∷ f ∷ []))
  eight_run = more_digit (a ∷ b ∷ 58 ∷ c ∷ d ∷ 58 ∷ e ∷ []) f is_f seven_run refl (rw (is_a, is_b, is_c, is_d, is_e, is_f) refl)

  pub nine_run : (semi : Bool) → run (in_phase s phase.Start) (a ∷ b ∷ 58 ∷ c ∷ d ∷ 58 ∷ e ∷ f ∷ mark semi ∷ []) ≡ Ok (in_time s (a ∷ b ∷ 58 ∷ c ∷ d ∷ 58 ∷ e ∷ f ∷ mark semi ∷ []))
  nine_run false = more_mark (a ∷ b ∷ 58 ∷ c ∷ d ∷ 58 ∷ e ∷ f ∷ []) 58 refl refl eight_run refl (rw (is_a, is_b, is_c, is_d, is_e, is_f) refl)
  nine_run true = more_mark (a ∷ b ∷ 58 ∷ c ∷ d ∷ 58 ∷ e ∷ f ∷ []) 59 refl refl eight_run refl (rw (is_a, is_b, is_c, is_d, is_e, is_f) refl)

  pub ten_begins : (semi : Bool) → begins_time (a ∷ b ∷ 58 ∷ c ∷ d ∷ 58 ∷ e ∷ f ∷ mark semi ∷ g ∷ []) ≡ true
  ten_begins false = rw (is_a, is_b, is_c, is_d, is_e, is_f, is_g) refl
  ten_begins true = rw (is_a, is_b, is_c, is_d, is_e, is_f, is_g) refl

  pub ten_run : (semi : Bool) → run (in_phase s phase.Start) (a ∷ b ∷ 58 ∷ c ∷ d ∷ 58 ∷ e ∷ f ∷ mark semi ∷ g ∷ []) ≡ Ok (in_time s (a ∷ b ∷ 58 ∷ c ∷ d ∷ 58 ∷ e ∷ f ∷ mark semi ∷ g ∷ []))
  ten_run semi = more_digit (a ∷ b ∷ 58 ∷ c ∷ d ∷ 58 ∷ e ∷ f ∷ mark semi ∷ []) g is_g (nine_run semi) refl (ten_begins semi)

-- the first ten bytes of a time code's text
abbrev pub ten_of : TimeCode → List ℕ
ten_of t = tens t.h ∷ ones t.h ∷ 58 ∷ tens t.m ∷ ones t.m ∷ 58 ∷ tens t.s ∷ ones t.s ∷ mark t.drop_frame ∷ tens t.f ∷ []

pub ten_read : (s : State) (count : Counting) (t : TimeCode) → HasTwoDigits t → s.count ≡ Some count → run (in_phase s phase.Start) (ten_of t) ≡ Ok (in_time s (ten_of t))
ten_read s count t two counted =
    ten_run s count counted (tens t.h) (ones t.h) (tens t.m) (ones t.m) (tens t.s) (ones t.s) (tens t.f) (tens_digit t.h two.h) (ones_digit t.h) (tens_digit t.m two.m) (ones_digit t.m)
    (tens_digit t.s two.s) (ones_digit t.s) (tens_digit t.f two.f) t.drop_frame

-- and the last, with which it is judged
pub last_goes : (s : State) (t : TimeCode) (found : Option TimeCode) → time_of_text (text_of t) ≡ found
    → within (in_time s (ten_of t)) phase.Time (ones t.f) ≡ timed (in_time s (ten_of t)) (text_of t) (judged_frame s.count s.last found)
last_goes s t found is = ap (λ (o : Option TimeCode). timed (in_time s (ten_of t)) (text_of t) (judged_frame s.count s.last o)) is

pub last_read : (s : State) (count : Counting) (t : TimeCode) → HasTwoDigits t → s.count ≡ Some count
    → take_byte (in_time s (ten_of t)) (ones t.f) ≡ timed (in_time s (ten_of t)) (text_of t) (or_offends (frame_after count (unwrap_or s.last 0) t))
last_read s count t digits counted =
    let x = digit_byte (ones t.f) (ones_digit t.f) in
    let read = spelled_is_read t (text_of t) (record { digits = digits; spelled = refl }) in
    goes_on (in_time s (ten_of t)) (ones t.f) (timed (in_time s (ten_of t)) (text_of t) (or_offends (frame_after count (unwrap_or s.last 0) t))) x.lf x.cr
    (last_goes s t (Some t) read ∙ ap (λ (o : Option Counting). timed (in_time s (ten_of t)) (text_of t) (judged_frame o s.last (Some t))) counted)

-- a time code that is good
abbrev pub at_time : State → List ℕ → ℕ → State
at_time s text frame = record s { phase = phase.Timed; text = text; last = Some frame }

pub time_text_read : (s : State) (count : Counting) (frame : ℕ) (t : TimeCode) (text : List ℕ) → IsTimeText t text → s.count ≡ Some count → frame_after count (unwrap_or s.last 0) t ≡ Ok frame
    → run (in_phase s phase.Start) text ≡ Ok (at_time s text frame)
time_text_read s count frame t text is counted framed =
    let judged : or_offends (frame_after count (unwrap_or s.last 0) t) ≡ Ok frame = ap or_offends framed in
    let last : take_byte (in_time s (ten_of t)) (ones t.f) ≡ Ok (at_time s (text_of t) frame) =
    last_read s count t is.digits counted ∙ ap (λ r. timed (in_time s (ten_of t)) (text_of t) r) judged in
    subst (λ (x : List ℕ). run (in_phase s phase.Start) x ≡ Ok (at_time s x frame)) (sym is.spelled)
    (run_more (in_phase s phase.Start) (ten_of t) (in_time s (ten_of t)) (ones t.f) (at_time s (text_of t) frame) (ten_read s count t is.digits counted) last)

-- what is read past, and the TAB
pub no_tab : (some tab : Bool) → tab ≡ false → (some && tab) ≡ false
no_tab true tab is = is
no_tab false tab is = refl

pub digit_within : (s : State) (many byte : ℕ) → IsDigitByte byte → nat_lt many 5 ≡ true → within (in_phase s (phase.Digits many)) (phase.Digits many) byte ≡ Ok (in_phase s (phase.Digits (many + 1)))
digit_within s many byte x test = rw (no_tab (nat_lt 0 many) (byte == 9) x.tab, test, x.digit) refl

pub digit_goes : (s : State) (many byte : ℕ) → is_digit byte ≡ true → many < 5 → take_byte (in_phase s (phase.Digits many)) byte ≡ Ok (in_phase s (phase.Digits (many + 1)))
digit_goes s many byte is low =
    let x = digit_byte byte is in
    let test : nat_lt many 5 ≡ true = grind (arith, common_steps) in
    goes_on (in_phase s (phase.Digits many)) byte (Ok (in_phase s (phase.Digits (many + 1)))) x.lf x.cr (digit_within s many byte x test)

pub digits_run : (digits : List ℕ) (s : State) (many : ℕ) → AreDecimals digits → many + length digits ≤ 5
    → run (in_phase s (phase.Digits many)) digits ≡ Ok (in_phase s (phase.Digits (many + length digits)))
digits_run [] s many are few =
    let same : many ≡ many + 0 = omega arith in
    subst (λ (n : ℕ). run (in_phase s (phase.Digits many)) [] ≡ Ok (in_phase s (phase.Digits n))) same refl
digits_run (x ∷ xs) s many are few =
    let (one, more) = both (is_digit x) _ are in
    let same : many + 1 + length xs ≡ many + length (x ∷ xs) = omega arith in
    step_run (in_phase s (phase.Digits many)) (in_phase s (phase.Digits (many + 1))) (in_phase s (phase.Digits (many + length (x ∷ xs)))) x xs
    (digit_goes s many x one (omega (arith, few)))
    (subst (λ (n : ℕ). run (in_phase s (phase.Digits (many + 1))) xs ≡ Ok (in_phase s (phase.Digits n))) same (digits_run xs s (many + 1) more (omega (arith, few))))

pub digits_tab : (s : State) (many : ℕ) → 1 ≤ many → take_byte (in_phase s (phase.Digits many)) 9 ≡ Ok (payload_begins s)
digits_tab s many some = let test : nat_lt 0 many ≡ true = grind (arith, common_steps) in rw test refl

pub field_run : (s : State) (field : ℕ) → s.two ≡ true → (field ≡ 48) ⊎ (field ≡ 49) → run (in_phase s phase.Timed) (46 ∷ field ∷ []) ≡ Ok (in_phase s phase.Field)
field_run s field is (inl f) = subst (λ (b : ℕ). run (in_phase s phase.Timed) (46 ∷ b ∷ []) ≡ Ok (in_phase s phase.Field)) (sym f) (rw is refl)
field_run s field is (inr f) = subst (λ (b : ℕ). run (in_phase s phase.Timed) (46 ∷ b ∷ []) ≡ Ok (in_phase s phase.Field)) (sym f) (rw is refl)

pub part_read : (s : State) (past : List ℕ) → s.two ≡ true → IsFieldPart past → run (in_phase s phase.Timed) (past ++ 9 ∷ []) ≡ Ok (payload_begins s)
part_read s past is part = elim part.is_rest [
  | inl none ↦
      subst (λ (x : List ℕ). run (in_phase s phase.Timed) (x ++ 9 ∷ []) ≡ Ok (payload_begins s)) (sym (part.spelled ∙ ap (λ r. 46 ∷ part.field ∷ r) none))
      (run_more (in_phase s phase.Timed) (46 ∷ part.field ∷ []) (in_phase s phase.Field) 9 (payload_begins s) (field_run s part.field is part.is_field) refl)
  | inr (digits, are, some, few, rest_is) ↦
      let start = in_phase s phase.Timed in
      let comma = run_more start (46 ∷ part.field ∷ []) (in_phase s phase.Field) 44 (in_phase s (phase.Digits 0)) (field_run s part.field is part.is_field) refl in
      let all = run_both start (46 ∷ part.field ∷ 44 ∷ []) digits (in_phase s (phase.Digits 0)) (in_phase s (phase.Digits (0 + length digits))) comma (digits_run digits s 0 are (omega (arith, few))) in
      subst (λ (x : List ℕ). run start (x ++ 9 ∷ []) ≡ Ok (payload_begins s)) (sym (part.spelled ∙ ap (λ r. 46 ∷ part.field ∷ r) rest_is))
      (run_more start (46 ∷ part.field ∷ 44 ∷ digits) (in_phase s (phase.Digits (0 + length digits))) 9 (payload_begins s) all (digits_tab s (0 + length digits) (omega (arith, some))))
]

pub past_read : (second : Bool) (s : State) (past : List ℕ) → s.two ≡ second → IsReadPast (version_of second) past → run (in_phase s phase.Timed) (past ++ 9 ∷ []) ≡ Ok (payload_begins s)
past_read false s past is none = subst (λ (x : List ℕ). run (in_phase s phase.Timed) (x ++ 9 ∷ []) ≡ Ok (payload_begins s)) (sym none) refl
past_read true s past is (inl none) = subst (λ (x : List ℕ). run (in_phase s phase.Timed) (x ++ 9 ∷ []) ≡ Ok (payload_begins s)) (sym none) refl
past_read true s past is (inr part) = part_read s past is part

-- a payload
abbrev pub in_payload : State → Open → State
in_payload s front = record s { phase = phase.Payload; payload = front }

pub no_letter_end : (judging : Bool) (front next : Open) → step judging front 10 ≡ Ok next → ⊥
no_letter_end judging front next is = elim (step_so judging front 10 next is) [
  | as_letter brought none letter join ended ↦ cc
  | as_first high none digit to ↦ cc
  | as_second high low opened digit join ended ↦ cc
]

pub no_letter_cr : (judging : Bool) (front next : Open) → step judging front 13 ≡ Ok next → ⊥
no_letter_cr judging front next is = elim (step_so judging front 13 next is) [
  | as_letter brought none letter join ended ↦ cc
  | as_first high none digit to ↦ cc
  | as_second high low opened digit join ended ↦ cc
]

pub not_lf : (front next : Open) (byte : ℕ) → step true front byte ≡ Ok next → (byte == 10) ≡ false
not_lf front next byte is = elim (cases_Bool (byte == 10)) [
  | inl e ↦ absurd (no_letter_end true front next (subst (λ (b : ℕ). step true front b ≡ Ok next) (eqb-true byte 10 e) is))
  | inr e ↦ e
]

pub not_cr : (front next : Open) (byte : ℕ) → step true front byte ≡ Ok next → (byte == 13) ≡ false
not_cr front next byte is = elim (cases_Bool (byte == 13)) [
  | inl e ↦ absurd (no_letter_cr true front next (subst (λ (b : ℕ). step true front b ≡ Ok next) (eqb-true byte 13 e) is))
  | inr e ↦ e
]

pub payload_goes_on : (s : State) (front : Open) (byte : ℕ) (found : Result Open Offence) → is_whole front.bytes ≡ false → step true front byte ≡ found
    → payload_read (in_payload s front) byte ≡ payload_goes (in_payload s front) found
payload_goes_on s front byte found open_yet is =
    let inner = rw open_yet at is in
    rw open_yet (ap (λ r. payload_goes (in_payload s front) r) inner)

pub payload_step : (s : State) (front next : Open) (byte : ℕ) → step true front byte ≡ Ok next → take_byte (in_payload s front) byte ≡ Ok (in_payload s next)
payload_step s front next byte is =
    let open_yet = (open_so (is_whole front.bytes) (stepped true front.digit front.bytes byte) next is).0 in
    goes_on (in_payload s front) byte (Ok (in_payload s next)) (not_lf front next byte is) (not_cr front next byte is) (payload_goes_on s front byte (Ok next) open_yet is)

pub payload_run : (text : List ℕ) (s : State) (front to : Open) → leads true front text to → run (in_payload s front) text ≡ Ok (in_payload s to)
payload_run [] s front to is = ap (λ f. Ok (in_payload s f)) is
payload_run (byte ∷ text) s front to (next, one, more) =
    step_run (in_payload s front) (in_payload s next) (in_payload s to) byte text (payload_step s front next byte one) (payload_run text s next to more)

pub whole_blank : (s : State) (front : Open) (byte : ℕ) → is_whole front.bytes ≡ true → is_blank byte ≡ true
    → take_byte (in_payload s front) byte ≡ Ok (record s { phase = phase.Behind; payload = front })
whole_blank s front byte whole is =
    let here : (b : ℕ) → byte ≡ b → take_byte (in_payload s front) b ≡ Ok (record s { phase = phase.Behind; payload = front })
    → take_byte (in_payload s front) byte ≡ Ok (record s { phase = phase.Behind; payload = front }) =
    λ b same to. subst (λ (x : ℕ). take_byte (in_payload s front) x ≡ Ok (record s { phase = phase.Behind; payload = front })) (sym same) to in
    ⊎_elim (λ tab. here 9 tab (rw whole refl)) (λ space. here 32 space (rw whole refl)) (blank_is byte is)

pub behind_step : (s : State) (byte : ℕ) → is_blank byte ≡ true → take_byte (in_phase s phase.Behind) byte ≡ Ok (in_phase s phase.Behind)
behind_step s byte is =
    let here : (b : ℕ) → byte ≡ b → take_byte (in_phase s phase.Behind) b ≡ Ok (in_phase s phase.Behind) → take_byte (in_phase s phase.Behind) byte ≡ Ok (in_phase s phase.Behind) =
    λ b same to. subst (λ (x : ℕ). take_byte (in_phase s phase.Behind) x ≡ Ok (in_phase s phase.Behind)) (sym same) to in
    ⊎_elim (λ tab. here 9 tab refl) (λ space. here 32 space refl) (blank_is byte is)

pub behind_run : (s : State) (xs : List ℕ) → AreBlanks xs → run (in_phase s phase.Behind) xs ≡ Ok (in_phase s phase.Behind)
behind_run s [] are = refl
behind_run s (x ∷ xs) are =
    step_run (in_phase s phase.Behind) (in_phase s phase.Behind) (in_phase s phase.Behind) x xs (behind_step s x are.0) (behind_run s xs are.1)

pub record PayloadEnds (s : State) (front : Open) (blanks : List ℕ) : Type 0 where
  pub to : State
  pub is : run (in_payload s front) blanks ≡ Ok to
  pub may : ends to ≡ Some true
  pub told : told_of to ≡ told_of s
  pub payload : to.payload ≡ front
  pub version : to.two ≡ s.two

pub payload_may : (s : State) (front : Open) → is_whole front.bytes ≡ true → ends (in_payload s front) ≡ Some true
payload_may s front whole = rw whole refl

pub payload_ends : (s : State) (front : Open) (blanks : List ℕ) → is_whole front.bytes ≡ true → AreBlanks blanks → PayloadEnds s front blanks
payload_ends s front [] whole are = record { to = in_payload s front; is = refl; may = payload_may s front whole; told = refl; payload = refl; version = refl }
payload_ends s front (x ∷ xs) whole are = record {
  to = record s { phase = phase.Behind; payload = front };
  is = step_run (in_payload s front) (record s { phase = phase.Behind; payload = front }) (record s { phase = phase.Behind; payload = front }) x xs
      (whole_blank s front x whole are.0) (behind_run (record s { payload = front }) xs are.1);
  may = refl;
  told = refl;
  payload = refl;
  version = refl;
}

-- a packet's line
pub packet_reads : (second : Bool) (s : State) (time : TimeCode) (payload : Payload) (text : List ℕ) (count : Counting) (frame : ℕ) (u : Told) → s.two ≡ second
    → IsPacketLine (version_of second) time payload text → s.count ≡ Some count → frame_after count (unwrap_or s.last 0) time ≡ Ok frame
    → u ≡ record (told_of s) { last = Some frame; placed = s.placed ++ (frame, payload) ∷ [] } → LineReads (in_phase s phase.Start) text u
packet_reads second s time payload text count frame u second_is p counted framed told =
    let start = in_phase s phase.Start in
    let at = at_time s p.text frame in
    let bytes = at_bytes (payload_bytes payload) in
    let first = time_text_read s count frame time p.text p.is_text counted framed in
    let past = past_read second at p.past second_is p.is_past in
    let body = payload_run p.payload_text at nothing_open bytes
    (under_leads true payload (checksum_byte payload) p.payload_text
    (record { items = p.is_payload.items; are = p.is_payload.are; stand_for = p.is_payload.stand_for; right = λ on. refl })) in
    let e = payload_ends at bytes p.blanks (packet_whole payload (checksum_byte payload)) p.are_blanks in
    let one = run_both start p.text (p.past ++ 9 ∷ []) at (payload_begins at) first past in
    let two_on = run_both start (p.text ++ (p.past ++ 9 ∷ [])) p.payload_text (payload_begins at) (in_payload at bytes) one body in
    let all = run_both start ((p.text ++ (p.past ++ 9 ∷ [])) ++ p.payload_text) p.blanks (in_payload at bytes) e.to two_on e.is in
    let texts : ((p.text ++ (p.past ++ 9 ∷ [])) ++ p.payload_text) ++ p.blanks ≡ text =
    append_assoc (p.text ++ (p.past ++ 9 ∷ [])) p.payload_text p.blanks
    ∙ (append_assoc p.text (p.past ++ 9 ∷ []) (p.payload_text ++ p.blanks)
    ∙ (ap (λ x. p.text ++ x) (append_assoc p.past (9 ∷ []) (p.payload_text ++ p.blanks)) ∙ sym p.spelled)) in
    record {
      to = e.to;
      gives = true;
      is = subst (λ (x : List ℕ). run start x ≡ Ok e.to) texts all;
      may = e.may;
      told = told_packet e.to (told_of s) frame payload e.told (ap (λ f. f.bytes) e.payload) ∙ sym told;
      version = e.version;
    }
