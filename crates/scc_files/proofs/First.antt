-- The first offence of bytes: nothing before it offends, and no file can continue with it.
use Rattle.std.proofs.Common.{◌≡◌, ℕ, zero, suc, ◌+◌, ◌-◌, ◌*◌, ◌<◌, ◌⊎◌, Bool, true, false, cond, nat_eq, nat_lt, refl, sym, ◌∙◌, ap, subst, arith, lit<, List, [], ◌∷◌, ◌++◌, append_assoc, append-nil, length, take, drop, drop-cons, add-one, get_or, Option, Some, None, Result, Ok, Err, inl, inr, ⊎_elim}
use Rattle.std.specs.Prelude.{codes, slice_set, ⊤}
use Rattle.std.specs.Option.{option_and_then}
use Rattle.std.specs.Result.{result_ok}
use Rattle.std.proofs.lemmas.Bool.{eq-eqb}
use Rattle.std.proofs.lemmas.Grind.{common_steps}
use Rattle.std.proofs.lemmas.List.{length-set, length-take-le}
use Rattle.std.proofs.Math.Seq.{take-length}
use Rattle.std.proofs.Common.{length-append, length-drop, ◌&&◌}
use Rattle.cc_base.specs.declared.refusal.Refusal.{Refusal}
use Rattle.cc_base.specs.declared.why.Why.{Why}
use Rattle.cc_base.specs.declared.why.Why.TheVariants as why
use Rattle.line21_codes.specs.declared.pairs.Pair.{Pair}
use Rattle.time_codes.proofs.TextLemmas.{read_is_spelled}
use Rattle.time_codes.specs.Frames.{frame_of}
use Rattle.time_codes.specs.Texts.{time_of_text, two_digit_number}
use Rattle.time_codes.specs.declared.time_code.TimeCode.{TimeCode}
use Rattle.scc_files.specs.Lines.{IsForm, IsTimedLine, TimedLine}
use Rattle.scc_files.specs.Offences.{BeginsFile, BeginsForm, EndsEarly, IsFirstOffence, IsUnoffendingText, TimeOffends, line_why, time_why, time_why_by}
use Rattle.scc_files.specs.Phases.{first_text, fits, may_end, phase_after, why_in}
use Rattle.scc_files.specs.Reading.{Stepped, at_first, at_first_frame, behind, judged, line_at, read_file, read_from, reached, step, step_to, text_done, timed}
use Rattle.scc_files.specs.SccFiles.{one_a_frame}
use Rattle.scc_files.specs.declared.phase.Phase.{Phase}
use Rattle.scc_files.specs.declared.phase.Phase.TheVariants as phase
use Rattle.scc_files.specs.declared.reader.Offence.{Offence}
use Rattle.scc_files.specs.declared.reader.Position.{Position}
use Rattle.scc_files.specs.declared.reader.Reader.{Reader}
use Rattle.scc_files.proofs.Complete.{Placed, Reads, after_pairs, file_read, form_read, judged_is, lines_read, one, timed_read}
use Rattle.scc_files.proofs.Origins.{AllFit, Origin, Target, TextOrigin, TextWhole, all_fit_more, origins, target}
use Rattle.scc_files.proofs.Replay.{form_step, ReadsAll, Stops, moved_step, none_reader, reach, reader_of, replay, replay_refused, same_phase, some_reader, split}
use Rattle.scc_files.proofs.Sound.{Pairs, err_ok, form_sound, front_more}
use Rattle.scc_files.proofs.Stays.{err_is}
use Rattle.scc_files.proofs.Timed.{file_sound}

-- bytes with which a file may go on to its end
pub record Completes (j : Bool) (r : Reader) : Type 0 where
  pub more : List ℕ
  pub reads : (place : ℕ) → ReadsAll j r more place

pub before_last : (at n : ℕ) → at + suc (suc n) ≡ 18 → nat_eq at 17 ≡ false
before_last at n is = grind (arith, common_steps)

pub first_reads : (n at : ℕ) (j : Bool) (p : Position) → at + suc n ≡ 18 → Reads j (phase.First at) p (drop at first_text) []
first_reads zero at j p is =
    let last : 17 ≡ at = omega arith in
    subst (λ (k : ℕ). Reads j (phase.First k) p (drop k first_text) []) last (record { at = λ place. refl })
first_reads (suc n) at j p is =
    let next : at + 1 + suc n ≡ 18 = omega arith in
    let early : at < 18 = omega arith in
    let other = before_last at n is in
    let same : nat_eq (get_or first_text at 0) (get_or first_text at 0) ≡ true = eq-eqb (get_or first_text at 0) (get_or first_text at 0) refl in
    let moves : phase_after (phase.First at) (get_or first_text at 0) ≡ Some (phase.First (at + 1)) =
    ap (λ t. cond t (cond (nat_eq at 17) (Some phase.FirstSpaces) (Some (phase.First (at + 1)))) None) same
    ∙ ap (λ t. cond t (Some phase.FirstSpaces) (Some (phase.First (at + 1)))) other in
    let step_on = one j p (phase.First at) (phase.First (at + 1)) (get_or first_text at 0) (drop (at + 1) first_text) [] moves refl (first_reads n (at + 1) j p next) in
    let spelled : get_or first_text at 0 ∷ drop (at + 1) first_text ≡ drop at first_text = rw add-one (sym (drop-cons first_text at 0 early)) in
    subst (λ (z : List ℕ). Reads j (phase.First at) p z []) spelled step_on

-- a phase within a time code's text
abbrev pub IsText : Phase → Type 0
IsText (phase.Text at text) = ⊤
IsText _ = ⊥

pub completes_first : (j : Bool) (at : ℕ) (p : Position) → at < 18 → Completes j (record { phase = phase.First at; position = p })
completes_first j at p early =
    let read = first_reads (17 - at) at j p (omega arith) in
    record { more = drop at first_text; reads = λ place. record { out = []; is = read.at place } }

pub completes : (opening : Option ℕ) (to : Phase) (j : Bool) (p : Position) (before : List ℕ) → Origin opening before (record { phase = to; position = p })
    → IsText to ⊎ Completes j (record { phase = to; position = p })
completes opening (phase.First at) j p before origin = inr (completes_first j at p origin)
completes opening phase.FirstSpaces j p before origin = inr (record { more = []; reads = λ place. record { out = []; is = refl } })
completes opening phase.FirstEnd j p before origin = inr (record { more = 10 ∷ []; reads = λ place. record { out = []; is = refl } })
completes opening phase.Start j p before origin = inr (record { more = []; reads = λ place. record { out = []; is = refl } })
completes opening phase.Blank j p before origin = inr (record { more = []; reads = λ place. record { out = []; is = refl } })
completes opening phase.End j p before origin = inr (record { more = 10 ∷ []; reads = λ place. record { out = []; is = refl } })
completes opening (phase.Text at text) j p before origin = inl tt
completes opening (phase.Timed text) j p before origin =
    inr (record { more = 32 ∷ 56 ∷ 48 ∷ 56 ∷ 48 ∷ []; reads = λ place. record { out = (p.next, record { a = 128; b = 128 }) ∷ []; is = refl } })
completes opening phase.Gap j p before origin =
    inr (record { more = 56 ∷ 48 ∷ 56 ∷ 48 ∷ []; reads = λ place. record { out = (p.next, record { a = 128; b = 128 }) ∷ []; is = refl } })
completes opening (phase.One value) j p before origin =
    inr (record { more = 48 ∷ 56 ∷ 48 ∷ []; reads = λ place. record { out = (p.next, record { a = 16 * value + 0; b = 128 }) ∷ []; is = refl } })
completes opening (phase.Two first) j p before origin =
    inr (record { more = 56 ∷ 48 ∷ []; reads = λ place. record { out = (p.next, record { a = first; b = 128 }) ∷ []; is = refl } })
completes opening (phase.Three first value) j p before origin =
    inr (record { more = 48 ∷ []; reads = λ place. record { out = (p.next, record { a = first; b = 16 * value + 0 }) ∷ []; is = refl } })
completes opening (phase.Whole pair) j p before origin = inr (record { more = []; reads = λ place. record { out = []; is = refl } })
completes opening phase.Between j p before origin = inr (record { more = []; reads = λ place. record { out = []; is = refl } })

-- files that begin with bytes
pub begins_file : (opening : Option ℕ) (before : List ℕ) (s : Reader) → reach true (at_first opening) before ≡ Some s → Completes true s → BeginsFile opening before
begins_file opening before s reaches c =
    let all = replay true before c.more (at_first opening) s 0 reaches c.reads in
    record { more = c.more; pairs = all.out; file = file_sound opening all.out (before ++ c.more) all.is }

pub file_form : (opening : Option ℕ) (bytes : List ℕ) → BeginsFile opening bytes → BeginsForm bytes
file_form opening bytes b = record { more = b.more; lines = b.file.lines; form = b.file.form }

-- a text that fits is one of a time code
pub and_true : (p q : Bool) → p ≡ true → q ≡ true → (p && q) ≡ true
and_true true q first second = second
and_true false q first second = absurd (cc)

pub fit_text : (a b c d e f g h i k l : ℕ) → AllFit 0 (a ∷ b ∷ c ∷ d ∷ e ∷ f ∷ g ∷ h ∷ i ∷ k ∷ l ∷ [])
    → (t : TimeCode) × (time_of_text (a ∷ b ∷ c ∷ d ∷ e ∷ f ∷ g ∷ h ∷ i ∷ k ∷ l ∷ []) ≡ Some t)
fit_text a b c d e f g h i k l (fa, (fb, (fc, (fd, (fe, (ff, (fg, (fh, (fi, (fk, (fl, end))))))))))) =
    let all = and_true _ _ (and_true _ _ (and_true _ _ (and_true _ _ (and_true _ _ (and_true _ _ (and_true _ _ (and_true _ _ (and_true _ _ (and_true _ _ fa fb) fc) fd) fe) ff) fg) fh) fi) fk) fl in (
      record { h = two_digit_number a b; m = two_digit_number d e; s = two_digit_number g h; f = two_digit_number k l; drop_frame = nat_eq i 59 },
      ap (λ t. cond t (Some (record { h = two_digit_number a b; m = two_digit_number d e; s = two_digit_number g h; f = two_digit_number k l; drop_frame = nat_eq i 59 })) None) all,
    )

pub whole_text : (xs : List ℕ) → length xs ≡ 11 → AllFit 0 xs → (t : TimeCode) × (time_of_text xs ≡ Some t)
whole_text [] size fit = absurd (omega arith)
whole_text (a ∷ []) size fit = absurd (omega arith)
whole_text (a ∷ b ∷ []) size fit = absurd (omega arith)
whole_text (a ∷ b ∷ c ∷ []) size fit = absurd (omega arith)
whole_text (a ∷ b ∷ c ∷ d ∷ []) size fit = absurd (omega arith)
whole_text (a ∷ b ∷ c ∷ d ∷ e ∷ []) size fit = absurd (omega arith)
whole_text (a ∷ b ∷ c ∷ d ∷ e ∷ f ∷ []) size fit = absurd (omega arith)
whole_text (a ∷ b ∷ c ∷ d ∷ e ∷ f ∷ g ∷ []) size fit = absurd (omega arith)
whole_text (a ∷ b ∷ c ∷ d ∷ e ∷ f ∷ g ∷ h ∷ []) size fit = absurd (omega arith)
whole_text (a ∷ b ∷ c ∷ d ∷ e ∷ f ∷ g ∷ h ∷ i ∷ []) size fit = absurd (omega arith)
whole_text (a ∷ b ∷ c ∷ d ∷ e ∷ f ∷ g ∷ h ∷ i ∷ k ∷ []) size fit = absurd (omega arith)
whole_text (a ∷ b ∷ c ∷ d ∷ e ∷ f ∷ g ∷ h ∷ i ∷ k ∷ l ∷ []) size fit = fit_text a b c d e f g h i k l fit
whole_text (a ∷ b ∷ c ∷ d ∷ e ∷ f ∷ g ∷ h ∷ i ∷ k ∷ l ∷ m ∷ rest) size fit = absurd (omega arith)

-- an open text may be filled
abbrev pub filler : List ℕ
filler = codes "00:00:00:00"

pub fit_drop : (xs : List ℕ) (n at : ℕ) → AllFit at xs → AllFit (at + n) (drop n xs)
fit_drop xs zero at fit =
    let here : at ≡ at + 0 = omega arith in
    subst (λ (k : ℕ). AllFit k xs) here fit
fit_drop [] (suc n) at fit = tt
fit_drop (x ∷ xs) (suc n) at fit =
    let next : at + 1 + n ≡ at + suc n = omega arith in
    subst (λ (k : ℕ). AllFit k (drop n xs)) next (fit_drop xs n (at + 1) fit.1)

pub fit_append : (xs ys : List ℕ) (at : ℕ) → AllFit at xs → AllFit (at + length xs) ys → AllFit at (xs ++ ys)
fit_append [] ys at fit more =
    let here : at + 0 ≡ at = omega arith in
    subst (λ (k : ℕ). AllFit k ys) here more
fit_append (x ∷ xs) ys at fit more =
    let next : at + length (x ∷ xs) ≡ at + 1 + length xs = omega arith in
    (fit.0, fit_append xs ys (at + 1) fit.1 (subst (λ (k : ℕ). AllFit k ys) next more))

pub filler_fits : AllFit 0 filler
filler_fits = (refl, (refl, (refl, (refl, (refl, (refl, (refl, (refl, (refl, (refl, (refl, tt)))))))))))

-- a line whose text is filled
pub form_of_text : (opening : Option ℕ) (before : List ℕ) (at : ℕ) (text : List ℕ) (p : Position) → TextOrigin opening before at text p → BeginsForm before
form_of_text opening before at text p o =
    let front = take at text in
    let tail = drop at filler in
    let size : length front ≡ at = length-take-le at text (omega (arith, o.size, o.early)) in
    let place : 0 + at ≡ 0 + length front = omega (arith, size) in
    let fit : AllFit 0 (front ++ tail) =
    fit_append front tail 0 o.fit (subst (λ (k : ℕ). AllFit k tail) place (fit_drop filler at 0 filler_fits)) in
    let left : length tail ≡ 11 - at = length-drop at filler in
    let eleven : length front + length tail ≡ 11 = omega (arith, size, left, o.early) in
    let whole : length (front ++ tail) ≡ 11 = length-append front tail ∙ eleven in
    let (t, read) = whole_text (front ++ tail) whole fit in
    let is_text = read_is_spelled t (front ++ tail) read in
    let null : Pair = record { a = 128; b = 128 } in
    let line : TimedLine = record { time = t; first = null; more = [] } in
    let word = 56 ∷ 48 ∷ 56 ∷ 48 ∷ [] in
    let spelled = (front ++ tail) ++ (32 ∷ ([] ++ (word ++ []))) in
    let is_line : IsTimedLine line spelled = record {
      text = front ++ tail;
      blank = 32;
      blanks = [];
      word = word;
      words = [];
      is_text = is_text;
      is_blank_byte = refl;
      are_blanks = tt;
      is_word = record { a = 56; b = 48; c = 56; d = 48; p = 8; q = 0; r = 8; s = 0; spelled = refl; a_is = refl; b_is = refl; c_is = refl; d_is = refl; is = refl };
      are_words = tt;
      spelled = refl;
    } in
    let form = same_phase o.start (phase.First 0) (at_first_frame opening) (at_first_frame opening) (record { phase = phase.Start; position = p }) o.reaches in
    let q = form.at in
    let line_reads = timed_read false q q line spelled [] [] is_line refl (lines_read false [] (after_pairs q (null ∷ [])) [] [] refl refl) in
    let all = replay false o.start (spelled ++ []) (at_first opening) (record { phase = phase.Start; position = q }) 0 form.reaches
    (λ place. record { out = one_a_frame q.next (null ∷ []) ++ []; is = line_reads.at place }) in
    let file = form_sound opening false 0 (o.start ++ (spelled ++ [])) all.out all.is in
    let more = tail ++ (32 ∷ ([] ++ (word ++ []))) in
    let same : o.start ++ (spelled ++ []) ≡ before ++ more =
    ap (λ z. o.start ++ z) (append-nil spelled ∙ append_assoc front tail (32 ∷ ([] ++ (word ++ []))))
    ∙ (sym (append_assoc o.start front more) ∙ ap (λ z. z ++ more) (sym o.is)) in
    record { more = more; lines = file.lines; form = subst (λ (z : List ℕ). IsForm file.lines z) same file.form }

pub open_text : (opening : Option ℕ) (before : List ℕ) (to : Phase) (p : Position) → Origin opening before (record { phase = to; position = p }) → IsText to → IsUnoffendingText opening before
open_text opening before (phase.Text at text) p o is_text =
    let size : length (take at text) ≡ at = length-take-le at text (omega (arith, o.size, o.early)) in
    record {
      start = o.start;
      open_text = take at text;
      spelled = o.is;
      within = inr (o.ends, omega (arith, size, o.early));
      begins = begins_file opening o.start (record { phase = phase.Start; position = p }) o.reaches (record { more = []; reads = λ place. record { out = []; is = refl } });
      form = form_of_text opening before at text p o;
    }
open_text opening before (phase.First at) p o is_text = absurd is_text
open_text opening before phase.FirstSpaces p o is_text = absurd is_text
open_text opening before phase.FirstEnd p o is_text = absurd is_text
open_text opening before phase.Start p o is_text = absurd is_text
open_text opening before phase.Blank p o is_text = absurd is_text
open_text opening before phase.End p o is_text = absurd is_text
open_text opening before (phase.Timed text) p o is_text = absurd is_text
open_text opening before phase.Gap p o is_text = absurd is_text
open_text opening before (phase.One value) p o is_text = absurd is_text
open_text opening before (phase.Two first) p o is_text = absurd is_text
open_text opening before (phase.Three first value) p o is_text = absurd is_text
open_text opening before (phase.Whole pair) p o is_text = absurd is_text
open_text opening before phase.Between p o is_text = absurd is_text

-- nothing offends in bytes that are taken
pub unoffending : (opening : Option ℕ) (before : List ℕ) (to : Phase) (p : Position) → reach true (at_first opening) before ≡ Some (record { phase = to; position = p })
    → Origin opening before (record { phase = to; position = p }) → IsUnoffendingText opening before
unoffending opening before to p reaches origin =
    ⊎_elim
    (λ is_text. open_text opening before to p origin is_text)
    (λ c.
    let begins = begins_file opening before (record { phase = to; position = p }) reaches c in
    record { start = before; open_text = []; spelled = sym (append-nil before); within = inl refl; begins = begins; form = file_form opening before begins })
    (completes opening to true p before origin)

-- lines in form have pairs
pub form_placed : (lines : List (Option TimedLine)) (p : Position) → (out : Pairs) × Placed false p lines out
form_placed [] p = ([], refl)
form_placed (None ∷ lines) p = form_placed lines p
form_placed (Some line ∷ lines) p =
    let (more, placed) = form_placed lines (after_pairs p (line.first ∷ line.more)) in
    (one_a_frame p.next (line.first ∷ line.more) ++ more, (p, more, refl, placed, refl))

pub form_reads : (opening : Option ℕ) (lines : List (Option TimedLine)) (bytes : List ℕ) → IsForm lines bytes → ReadsAll false (at_first opening) bytes 0
form_reads opening lines bytes form =
    let (out, placed) = form_placed lines (at_first_frame opening) in
    record { out = out; is = form_read opening false lines bytes out form placed }

-- no file in form can continue with a byte that no phase can continue with
pub byte_offends : (opening : Option ℕ) (before : List ℕ) (byte : ℕ) (s : Reader) → reach true (at_first opening) before ≡ Some s → phase_after s.phase byte ≡ None → BeginsForm (before ++ byte ∷ []) → ⊥
byte_offends opening before byte s reaches stuck begins =
    let form = same_phase before (phase.First 0) (at_first_frame opening) (at_first_frame opening) s reaches in
    let r : Reader = record { phase = s.phase; position = form.at } in
    let refused = replay_refused false before (byte ∷ begins.more) (at_first opening) r 0 form.reaches
    (λ place. record {
      refusal = record { place = place - 0; why = why_in s.phase };
      is = ap (λ m. behind place (step_to false r m) (λ x. read_from false (place + 1) x begins.more)) stuck;
    }) in
    let same : (before ++ byte ∷ []) ++ begins.more ≡ before ++ (byte ∷ begins.more) = append_assoc before (byte ∷ []) begins.more in
    let read = form_reads opening begins.lines (before ++ (byte ∷ begins.more)) (subst (λ (z : List ℕ). IsForm begins.lines z) same begins.form) in
    err_ok (sym refused.is ∙ read.is)

-- and no bytes that end where no file may end are one
pub end_offends : (opening : Option ℕ) (bytes : List ℕ) (s : Reader) → reach true (at_first opening) bytes ≡ Some s → may_end s.phase ≡ false → (lines : List (Option TimedLine)) → IsForm lines bytes → ⊥
end_offends opening bytes s reaches stuck lines form =
    let at_phase = same_phase bytes (phase.First 0) (at_first_frame opening) (at_first_frame opening) s reaches in
    let r : Reader = record { phase = s.phase; position = at_phase.at } in
    let refused = replay_refused false bytes [] (at_first opening) r 0 at_phase.reaches
    (λ place. record {
      refusal = record { place = place; why = why_in s.phase };
      is = ap (λ may. cond {A = Result Pairs Refusal} may (Ok []) (Err (record { place = place; why = why_in s.phase }))) stuck;
    }) in
    let read = form_reads opening lines bytes form in
    err_ok (sym refused.is ∙ (ap (λ z. read_from false 0 (at_first opening) z) (append-nil bytes) ∙ read.is))

-- the reason where no line goes on, along bytes
abbrev pub why_from : Why → List ℕ → Why
why_from w [] = w
why_from w (byte ∷ bytes) = why_from (cond (nat_eq byte 10) why.SccSyntax w) bytes

pub same_cond : (t : Bool) (w : Why) → cond t w w ≡ w
same_cond true w = refl
same_cond false w = refl

abbrev pub HasNoLf : List ℕ → Type 0
HasNoLf [] = ⊤
HasNoLf (byte ∷ bytes) = (nat_eq byte 10 ≡ false) × HasNoLf bytes

pub no_lf_in : (bytes : List ℕ) (at : ℕ) → HasNoLf bytes → nat_eq (get_or bytes at 0) 10 ≡ false
no_lf_in [] zero none = refl
no_lf_in [] (suc at) none = refl
no_lf_in (byte ∷ bytes) zero none = none.0
no_lf_in (byte ∷ bytes) (suc at) none = no_lf_in bytes at none.1

pub first_text_has_none : HasNoLf first_text
first_text_has_none =
    (refl, (refl, (refl, (refl, (refl, (refl, (refl, (refl, (refl, (refl, (refl, (refl, (refl, (refl, (refl, (refl, (refl, (refl, tt))))))))))))))))))

pub header_kept : (from : Phase) (byte : ℕ) → nat_eq byte 10 ≡ false → why_in from ≡ why.Header → why.Header ≡ cond (nat_eq byte 10) why.SccSyntax (why_in from)
header_kept from byte other is = sym (ap (λ t. cond t why.SccSyntax (why_in from)) other ∙ is)

pub later_kept : (from : Phase) (byte : ℕ) → why_in from ≡ why.SccSyntax → why.SccSyntax ≡ cond (nat_eq byte 10) why.SccSyntax (why_in from)
later_kept from byte is = sym (ap (λ w. cond (nat_eq byte 10) why.SccSyntax w) is ∙ same_cond (nat_eq byte 10) why.SccSyntax)

pub why_step : (to from : Phase) (byte : ℕ) → Target from byte to → why_in to ≡ cond (nat_eq byte 10) why.SccSyntax (why_in from)
why_step (phase.First at) from byte t =
    header_kept from byte (ap (λ b. nat_eq b 10) t.byte_is ∙ no_lf_in first_text t.at' first_text_has_none) (ap why_in t.from_is)
why_step phase.FirstSpaces from byte t =
    ⊎_elim
    (λ f. header_kept from byte (ap (λ b. nat_eq b 10) f.byte_is ∙ no_lf_in first_text f.at' first_text_has_none) (ap why_in f.from_is))
    (λ f. header_kept from byte (ap (λ b. nat_eq b 10) f.1) (ap why_in f.0))
    t
why_step phase.FirstEnd from byte t = header_kept from byte (ap (λ b. nat_eq b 10) t.1) (ap why_in t.0)
why_step phase.Start from byte t = sym (ap (λ b. cond (nat_eq b 10) why.SccSyntax (why_in from)) t)
why_step phase.Blank from byte t = later_kept from byte t
why_step phase.End from byte t = later_kept from byte t
why_step (phase.Text at text) from byte t =
    ⊎_elim (λ s. later_kept from byte (ap why_in s.from_is)) (λ m. later_kept from byte (ap why_in m.from_is)) t
why_step (phase.Timed text) from byte t = later_kept from byte (ap why_in t.from_is)
why_step phase.Gap from byte t = later_kept from byte t
why_step (phase.One value) from byte t = later_kept from byte t
why_step (phase.Two first) from byte t = later_kept from byte t
why_step (phase.Three first value) from byte t = later_kept from byte t
why_step (phase.Whole pair) from byte t = later_kept from byte t
why_step phase.Between from byte t = later_kept from byte t

pub why_reach : (bytes : List ℕ) (r s : Reader) → reach true r bytes ≡ Some s → why_in s.phase ≡ why_from (why_in r.phase) bytes
why_reach [] r s is = ap (λ (x : Reader). why_in x.phase) (sym (some_reader is))
why_reach (byte ∷ bytes) r s is =
    let cases : (x : Result Stepped Offence) → step true r byte ≡ x → option_and_then (λ s. reach true s bytes) (reader_of x) ≡ Some s
    → why_in s.phase ≡ why_from (why_in r.phase) (byte ∷ bytes) =
    elim [
      | Ok stepped ↦ λ e h.
          let (to, moves, reached_is) = moved_step true r (phase_after r.phase byte) stepped e in
          let (phase_is, form) = form_step to r.position r.position stepped reached_is in
          why_reach bytes stepped.0 s h ∙ ap (λ w. why_from w bytes) (ap why_in phase_is ∙ why_step to r.phase byte (target r.phase byte to moves))
      | Err offence ↦ λ e h. absurd (none_reader h)
    ] in
    cases (step true r byte) refl is

pub later_why : (bytes : List ℕ) → why_from why.SccSyntax bytes ≡ why.SccSyntax
later_why [] = refl
later_why (byte ∷ bytes) = ap (λ w. why_from w bytes) (same_cond (nat_eq byte 10) why.SccSyntax) ∙ later_why bytes

pub line_case : (t : Bool) (bytes : List ℕ) → line_why bytes ≡ why_from why.Header bytes → cond t why.SccSyntax (line_why bytes) ≡ why_from (cond t why.SccSyntax why.Header) bytes
line_case true bytes is = sym (later_why bytes)
line_case false bytes is = is

pub line_why_is : (bytes : List ℕ) → line_why bytes ≡ why_from why.Header bytes
line_why_is [] = refl
line_why_is (byte ∷ bytes) = line_case (nat_eq byte 10) bytes (line_why_is bytes)

-- what a refused step is
pub refused_step : (r : Reader) (m : Option Phase) (o : Offence) → step_to true r m ≡ Err o
    → ((m ≡ None) × (o ≡ record { back = 0; why = why_in r.phase })) ⊎ ((to : Phase) × (m ≡ Some to) × (reached true r.position to ≡ Err o))
refused_step r None o is = inl (refl, sym (err_is is))
refused_step r (Some to) o is = inr (to, refl, is)

pub text_refused : (to : Phase) (judge : Result Position Offence) (o : Offence) → text_done to judge ≡ Err o → judge ≡ Err o
text_refused to (Ok s) o is = absurd (err_ok (sym is))
text_refused to (Err other) o is = ap (λ x. Err x) (err_is is)

pub refused_text : (to : Phase) (p : Position) (o : Offence) → reached true p to ≡ Err o → (text : List ℕ) × (to ≡ phase.Timed text) × (judged true p text ≡ Err o)
refused_text (phase.First at) p o is = absurd (err_ok (sym is))
refused_text phase.FirstSpaces p o is = absurd (err_ok (sym is))
refused_text phase.FirstEnd p o is = absurd (err_ok (sym is))
refused_text phase.Start p o is = absurd (err_ok (sym is))
refused_text phase.Blank p o is = absurd (err_ok (sym is))
refused_text phase.End p o is = absurd (err_ok (sym is))
refused_text (phase.Text at text) p o is = absurd (err_ok (sym is))
refused_text (phase.Timed text) p o is = (text, refl, text_refused (phase.Timed text) (judged true p text) o is)
refused_text phase.Gap p o is = absurd (err_ok (sym is))
refused_text (phase.One value) p o is = absurd (err_ok (sym is))
refused_text (phase.Two first) p o is = absurd (err_ok (sym is))
refused_text (phase.Three first value) p o is = absurd (err_ok (sym is))
refused_text (phase.Whole pair) p o is = absurd (err_ok (sym is))
refused_text phase.Between p o is = absurd (err_ok (sym is))

pub late_refused : (p : Position) (frame : ℕ) (late : Bool) (o : Offence)
    → cond {A = Result Position Offence} late (Err (record { back = 10; why = why.Backwards })) (Ok (line_at p frame)) ≡ Err o → (o.back ≡ 10) × (o.why ≡ why.Backwards)
late_refused p frame true o is = (ap (λ x. x.back) (sym (err_is is)), ap (λ x. x.why) (sym (err_is is)))
late_refused p frame false o is = absurd (err_ok (sym is))

pub time_refused_by : (p : Position) (r : Result ℕ Why) (o : Offence) → timed p (result_ok r) ≡ Err o → (o.back ≡ 10) × (o.why ≡ time_why_by r)
time_refused_by p (Ok frame) o is = late_refused p frame (nat_lt frame p.last) o is
time_refused_by p (Err reason) o is = (ap (λ x. x.back) (sym (err_is is)), ap (λ x. x.why) (sym (err_is is)))

pub time_refused : (p : Position) (text : List ℕ) (t : TimeCode) (o : Offence) → time_of_text text ≡ Some t → judged true p text ≡ Err o → (o.back ≡ 10) × (o.why ≡ time_why t)
time_refused p text t o read is = time_refused_by p (frame_of t) o (sym (judged_is true p text t read) ∙ is)

-- a time code's text that offends
pub time_offends : (opening : Option ℕ) (bytes before rest : List ℕ) (byte : ℕ) (s : Reader) (o : Offence) (refusal : Refusal) (text : List ℕ) → bytes ≡ before ++ byte ∷ rest
    → reach true (at_first opening) before ≡ Some s → Origin opening before s → step true s byte ≡ Err o → TextWhole s.phase byte text → judged true s.position text ≡ Err o
    → refusal ≡ record { place = 0 + length before - o.back; why = o.why } → TimeOffends opening bytes refusal
time_offends opening bytes before rest byte s o refusal text spelled reaches origin stepped w judge refused =
    let org : TextOrigin opening before w.at' w.text' s.position = subst (λ (f : Phase). Origin opening before (record { phase = f; position = s.position })) w.from_is origin in
    let front = take w.at' w.text' in
    let size : length front ≡ w.at' = length-take-le w.at' w.text' (omega (arith, org.size, org.early)) in
    let all_size : length w.text' ≡ w.at' + 1 = omega (arith, org.size, w.ten) in
    let set_size : length (slice_set w.text' w.at' byte) ≡ w.at' + 1 = length-set w.text' w.at' byte ∙ all_size in
    let set_is : slice_set w.text' w.at' byte ≡ front ++ byte ∷ [] =
    sym (ap (λ n. take n (slice_set w.text' w.at' byte)) (sym set_size) ∙ take-length (slice_set w.text' w.at' byte)) ∙ front_more w.at' w.text' byte org.size org.early in
    let eleven : length front + length (byte ∷ []) ≡ 11 = omega (arith, size, w.ten) in
    let whole : length (front ++ byte ∷ []) ≡ 11 = length-append front (byte ∷ []) ∙ eleven in
    let here : w.at' ≡ 0 + length front = omega (arith, size) in
    let fit = all_fit_more 0 front byte org.fit (subst (λ (n : ℕ). fits n byte ≡ true) here w.fit) in
    let (t, read) = whole_text (front ++ byte ∷ []) whole fit in
    let judge' : judged true s.position (front ++ byte ∷ []) ≡ Err o = subst (λ (x : List ℕ). judged true s.position x ≡ Err o) (w.text_is ∙ set_is) judge in
    let (back, reason) = time_refused s.position (front ++ byte ∷ []) t o read judge' in
    let count : length before ≡ length org.start + length front = ap length org.is ∙ length-append org.start front in
    let place : refusal.place ≡ 0 + length before - o.back = ap (λ x. x.place) refused in
    let joined : (more : List ℕ) → before ++ (byte ∷ more) ≡ org.start ++ ((front ++ byte ∷ []) ++ more) = λ more.
    ap (λ z. z ++ (byte ∷ more)) org.is ∙ (append_assoc org.start front (byte ∷ more) ∙ ap (λ z. org.start ++ z) (sym (append_assoc front (byte ∷ []) more))) in
    record {
      start = org.start;
      text = front ++ byte ∷ [];
      rest = rest;
      time = t;
      spelled = spelled ∙ joined rest;
      is_text = read_is_spelled t (front ++ byte ∷ []) read;
      ends = org.ends;
      begins = begins_file opening org.start (record { phase = phase.Start; position = s.position }) org.reaches (record { more = []; reads = λ place. record { out = []; is = refl } });
      offends = λ b.
          let refuses = replay_refused true before (byte ∷ b.more) (at_first opening) s 0 reaches
          (λ place. record {
            refusal = record { place = place - o.back; why = o.why };
            is = ap (λ x. behind place x (λ y. read_from true (place + 1) y b.more)) stepped;
          }) in
          let same : (org.start ++ (front ++ byte ∷ [])) ++ b.more ≡ before ++ (byte ∷ b.more) =
          append_assoc org.start (front ++ byte ∷ []) b.more ∙ sym (joined b.more) in
          err_ok (sym refuses.is ∙ (ap (λ z. read_from true 0 (at_first opening) z) (sym same) ∙ file_read opening b.pairs ((org.start ++ (front ++ byte ∷ [])) ++ b.more) b.file));
      place_is = omega (arith, place, back, count, size, w.ten);
      why_is = ap (λ x. x.why) refused ∙ reason;
    }

pub stop_offends : (opening : Option ℕ) (rest bytes before : List ℕ) (s : Reader) (refusal : Refusal) → bytes ≡ before ++ rest → reach true (at_first opening) before ≡ Some s → Origin opening before s
    → IsUnoffendingText opening before → line_why before ≡ why_in s.phase → Stops s rest (0 + length before) refusal → IsFirstOffence opening bytes refusal
stop_offends opening [] bytes before s refusal spelled reaches origin good reason stops =
    let same : bytes ≡ before = spelled ∙ append-nil before in
    let place : refusal.place ≡ 0 + length before = ap (λ x. x.place) stops.1 in
    let here : EndsEarly opening before refusal = record {
      unoffending = good;
      no_file = end_offends opening before s reaches stops.0;
      place_is = omega (arith, place);
      why_is = ap (λ x. x.why) stops.1 ∙ sym reason;
    } in
    inr (inl (subst (λ (z : List ℕ). EndsEarly opening z refusal) (sym same) here))
stop_offends opening (byte ∷ rest) bytes before s refusal spelled reaches origin good reason (o, stepped, refused) =
    let place : refusal.place ≡ 0 + length before - o.back = ap (λ x. x.place) refused in
    ⊎_elim
    (λ stuck.
    let back : o.back ≡ 0 = ap (λ x. x.back) stuck.1 in
    inl (record {
      before = before;
      byte = byte;
      rest = rest;
      spelled = spelled;
      unoffending = good;
      offends = byte_offends opening before byte s reaches stuck.0;
      place_is = omega (arith, place, back);
      why_is = ap (λ x. x.why) refused ∙ (ap (λ x. x.why) stuck.1 ∙ sym reason);
    }))
    (λ went.
    let (text, to_is, judge) = refused_text went.0 s.position o went.2 in
    let w = target s.phase byte (phase.Timed text) (went.1 ∙ ap (λ x. Some x) to_is) in
    inr (inr (time_offends opening bytes before rest byte s o refusal text spelled reaches origin stepped w judge refused)))
    (refused_step s (phase_after s.phase byte) o stepped)

pub first_offence : (opening : Option ℕ) (bytes : List ℕ) (refusal : Refusal) → read_file opening bytes ≡ Err refusal → IsFirstOffence opening bytes refusal
first_offence opening bytes refusal is =
    let sp = split bytes (at_first opening) 0 refusal is in
    let early : 0 < 18 = lit< tt in
    let origin = origins opening sp.before [] (at_first opening) sp.s refl early sp.reaches in
    let good = unoffending opening sp.before sp.s.phase sp.s.position sp.reaches origin in
    let reason : line_why sp.before ≡ why_in sp.s.phase = line_why_is sp.before ∙ sym (why_reach sp.before (at_first opening) sp.s sp.reaches) in
    stop_offends opening sp.rest bytes sp.before sp.s refusal sp.is sp.reaches origin good reason sp.stops
