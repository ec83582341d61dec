-- The first offence of bytes is one.
use Rattle.std.proofs.Common.{◌≡◌, ℕ, ◌+◌, ◌<◌, ◌≤◌, ◌⊎◌, Bool, true, false, cond, nat_eq, refl, sym, ◌∙◌, ap, subst, arith, List, [], ◌∷◌, ◌++◌, append_assoc, append-nil, length, length-append, get_or, Option, Some, None, Result, Ok, Err, inl, inr, ⊎_elim}
use Rattle.std.specs.Option.{option_and_then}
use Rattle.std.proofs.lemmas.Bool.{cases_lt}
use Rattle.std.proofs.lemmas.Grind.{common_steps}
use Rattle.cc_base.specs.declared.refusal.Refusal.{Refusal}
use Rattle.line21_codes.specs.declared.pairs.Pair.{Pair}
use Rattle.time_codes.proofs.TextLemmas.{spelled_is_read}
use Rattle.time_codes.specs.Texts.{IsTimeText, mark, text_of, time_of_text}
use Rattle.time_codes.specs.declared.time_code.TimeCode.{TimeCode}
use Rattle.scc_files.specs.Lines.{IsForm, IsTimedLine, TimedLine}
use Rattle.scc_files.specs.Offences.{BeginsFile, BeginsForm, ByteOffends, EndsEarly, EndsLine, IsFirstOffence, IsUnoffendingText, TimeOffends, line_why, time_why}
use Rattle.scc_files.specs.Phases.{first_text, phase_after}
use Rattle.scc_files.specs.Reading.{Stepped, at_first, at_first_frame, behind, read_from, step}
use Rattle.scc_files.specs.SccFiles.{IsSccFile, one_a_frame}
use Rattle.scc_files.specs.declared.phase.Phase.{Phase}
use Rattle.scc_files.specs.declared.phase.Phase.TheVariants as phase
use Rattle.scc_files.specs.declared.reader.Offence.{Offence}
use Rattle.scc_files.specs.declared.reader.Position.{Position}
use Rattle.scc_files.specs.declared.reader.Reader.{Reader}
use Rattle.scc_files.proofs.Complete.{after_pairs, file_read, lines_read, timed_read}
use Rattle.scc_files.proofs.First.{HasNoLf, first_text_has_none, no_lf_in}
use Rattle.scc_files.proofs.Replay.{form_step, moved_step, none_reader, reach, reader_of, replay, same_phase, some_reader}
use Rattle.scc_files.proofs.Sound.{Pairs, err_ok, form_sound}
use Rattle.scc_files.proofs.Stays.{refused_ahead}

-- two ways to cut bytes
pub cut : (xs a ys b : List ℕ) → xs ++ a ≡ ys ++ b → length xs ≤ length ys → (mid : List ℕ) × (ys ≡ xs ++ mid) × (a ≡ mid ++ b)
cut [] a ys b is low = (ys, refl, is)
cut (x ∷ xs) a [] b is low = absurd (omega arith)
cut (x ∷ xs) a (y ∷ ys) b is low =
    let same : xs ++ a ≡ ys ++ b = cc in
    let (mid, front, rest) = cut xs a ys b same (omega arith) in
    (mid, cc, rest)

pub no_more_bytes : (xs mid ys : List ℕ) → ys ≡ xs ++ mid → length ys ≡ length xs → mid ≡ []
no_more_bytes xs [] ys is size = refl
no_more_bytes xs (m ∷ mid) ys is size = absurd (omega (arith, ap length is, length-append xs (m ∷ mid)))

pub form_front : (a b : List ℕ) → BeginsForm (a ++ b) → BeginsForm a
form_front a b begins =
    record { more = b ++ begins.more; lines = begins.lines; form = subst (IsForm begins.lines) (append_assoc a b begins.more) begins.form }

pub file_front : (opening : Option ℕ) (a b : List ℕ) → BeginsFile opening (a ++ b) → BeginsFile opening a
file_front opening a b begins =
    record { more = b ++ begins.more; pairs = begins.pairs; file = subst (IsSccFile opening begins.pairs) (append_assoc a b begins.more) begins.file }

-- no form begins with bytes of which one offends
pub byte_early : (opening : Option ℕ) (bytes ys b : List ℕ) (refusal : Refusal) (o : ByteOffends opening bytes refusal) → bytes ≡ ys ++ b → BeginsForm ys → length o.before < length ys → ⊥
byte_early opening bytes ys b refusal o is form early =
    let (mid, ys_is, rest_is) = cut o.before (o.byte ∷ o.rest) ys b (sym o.spelled ∙ is) (omega arith) in
    let cases : (mid : List ℕ) → ys ≡ o.before ++ mid → o.byte ∷ o.rest ≡ mid ++ b → ⊥ =
    elim [
      | [] ↦ λ e r. omega (arith, early, ap length e, length-append o.before [])
      | m ∷ ms ↦ λ e r.
          let byte_is : m ≡ o.byte = cc in
          let joined : ys ≡ (o.before ++ o.byte ∷ []) ++ ms =
          e ∙ (ap (λ x. o.before ++ x ∷ ms) byte_is ∙ sym (append_assoc o.before (o.byte ∷ []) ms)) in
          o.offends (form_front (o.before ++ o.byte ∷ []) ms (subst BeginsForm joined form))
    ] in
    cases mid ys_is rest_is

-- no text of a time code has an LF
pub high : (n : ℕ) → nat_eq (48 + n) 10 ≡ false
high n = grind (arith, common_steps)

pub mark_high : (drop_frame : Bool) → nat_eq (mark drop_frame) 10 ≡ false
mark_high true = refl
mark_high false = refl

pub text_has_none : (t : TimeCode) → HasNoLf (text_of t)
text_has_none t = (high _, (high _, (refl, (high _, (high _, (refl, (high _, (high _, (mark_high t.drop_frame, (high _, (high _, tt)))))))))))

pub lf_within : (front more : List ℕ) → HasNoLf (front ++ 10 ∷ more) → ⊥
lf_within [] more none = absurd (cc (none.0))
lf_within (byte ∷ front) more none = lf_within front more none.1

pub eleven_long : (t : TimeCode) (text : List ℕ) → IsTimeText t text → length text ≡ 11
eleven_long t text is = ap length is.spelled

-- no file begins with a time code's text that offends
pub time_begins : (opening : Option ℕ) (bytes ys b : List ℕ) (refusal : Refusal) (o : TimeOffends opening bytes refusal) → bytes ≡ ys ++ b → BeginsFile opening ys → length o.start + 11 ≤ length ys → ⊥
time_begins opening bytes ys b refusal o is begins late =
    let size : length (o.start ++ o.text) ≡ length o.start + 11 =
    length-append o.start o.text ∙ ap (λ n. length o.start + n) (eleven_long o.time o.text o.is_text) in
    let (mid, ys_is, rest_is) = cut (o.start ++ o.text) o.rest ys b (append_assoc o.start o.text o.rest ∙ (sym o.spelled ∙ is)) (omega (arith, size)) in
    o.offends (file_front opening (o.start ++ o.text) mid (subst (BeginsFile opening) ys_is begins))

-- nor with bytes that end a line within it
pub line_early : (opening : Option ℕ) (bytes ys b : List ℕ) (refusal : Refusal) (o : TimeOffends opening bytes refusal) → bytes ≡ ys ++ b → EndsLine ys → length o.start < length ys
    → length ys < length o.start + 11 → ⊥
line_early opening bytes ys b refusal o is ends past early =
    let (mid, ys_is, rest_is) = cut o.start (o.text ++ o.rest) ys b (sym o.spelled ∙ is) (omega arith) in
    let (front, lf) = ends in
    let long : length ys ≡ length front + 1 = ap length lf ∙ length-append front (10 ∷ []) in
    let (inner, front_is, mid_is) = cut o.start mid front (10 ∷ []) (sym ys_is ∙ lf) (omega (arith, long)) in
    let size = ap length ys_is ∙ length-append o.start mid in
    let text_size = eleven_long o.time o.text o.is_text in
    let (left, text_is, b_is) = cut mid b o.text o.rest (sym rest_is) (omega (arith, size, text_size)) in
    let whole : text_of o.time ≡ inner ++ 10 ∷ left =
    sym o.is_text.spelled ∙ (text_is ∙ (ap (λ z. z ++ left) mid_is ∙ append_assoc inner (10 ∷ []) left)) in
    lf_within inner left (subst HasNoLf whole (text_has_none o.time))

pub either : (n m : ℕ) → (n ≤ m) ⊎ (m < n)
either n m = ⊎_elim (λ less. inr less) (λ more. inl more) (cases_lt m n)

-- bytes past it offend
pub time_early : (opening : Option ℕ) (bytes ys b : List ℕ) (refusal : Refusal) (o : TimeOffends opening bytes refusal) → bytes ≡ ys ++ b → IsUnoffendingText opening ys → length o.start + 11 ≤ length ys → ⊥
time_early opening bytes ys b refusal o is u late =
    let joined : bytes ≡ u.start ++ (u.open_text ++ b) = is ∙ (ap (λ z. z ++ b) u.spelled ∙ append_assoc u.start u.open_text b) in
    let size : length ys ≡ length u.start + length u.open_text = ap length u.spelled ∙ length-append u.start u.open_text in
    ⊎_elim
    (λ none.
    let whole : length u.open_text ≡ 0 = ap length none in
    time_begins opening bytes u.start (u.open_text ++ b) refusal o joined u.begins (omega (arith, size, whole)))
    (λ ended.
    ⊎_elim
    (λ far. time_begins opening bytes u.start (u.open_text ++ b) refusal o joined u.begins far)
    (λ near. line_early opening bytes u.start (u.open_text ++ b) refusal o joined ended.0 (omega (arith, size, ended.1)) near)
    (either (length o.start + 11) (length u.start)))
    u.within

-- bytes that a file begins with are taken
pub reach_front : (before more : List ℕ) (r : Reader) (place : ℕ) (out : Pairs) → read_from true place r (before ++ more) ≡ Ok out
    → (s : Reader) × (reach true r before ≡ Some s)
reach_front [] more r place out is = (r, refl)
reach_front (byte ∷ before) more r place out is =
    let cases : (x : Result Stepped Offence) → step true r byte ≡ x → behind place x (λ s. read_from true (place + 1) s (before ++ more)) ≡ Ok out
    → (s : Reader) × (option_and_then (λ s. reach true s before) (reader_of x) ≡ Some s) =
    elim [
      | Ok stepped ↦ λ e h.
          let next : (x : Result Pairs Refusal) → read_from true (place + 1) stepped.0 (before ++ more) ≡ x → (s : Reader) × (reach true stepped.0 before ≡ Some s) =
          elim [
            | Ok rest ↦ λ f. reach_front before more stepped.0 (place + 1) rest f
            | Err refusal ↦ λ f. absurd (err_ok (sym (refused_ahead stepped.1 _ refusal f) ∙ h))
          ] in
          next (read_from true (place + 1) stepped.0 (before ++ more)) refl
      | Err offence ↦ λ e h. absurd (err_ok h)
    ] in
    let (s, found) = cases (step true r byte) refl is in
    (s, found)

-- the last byte of bytes that are taken
pub reach_last : (front : List ℕ) (byte : ℕ) (r s : Reader) → reach true r (front ++ byte ∷ []) ≡ Some s
    → (u : Reader) × (given : Option (ℕ × Pair)) × (step true u byte ≡ Ok (s, given))
reach_last [] byte r s is =
    let cases : (x : Result Stepped Offence) → step true r byte ≡ x → option_and_then (λ s. reach true s []) (reader_of x) ≡ Some s
    → (u : Reader) × (given : Option (ℕ × Pair)) × (step true u byte ≡ Ok (s, given)) =
    elim [
      | Ok stepped ↦ λ e h. (r, stepped.1, e ∙ ap (λ q. Ok (q, stepped.1)) (some_reader h))
      | Err offence ↦ λ e h. absurd (none_reader h)
    ] in
    cases (step true r byte) refl is
reach_last (first ∷ front) byte r s is =
    let cases : (x : Result Stepped Offence) → step true r first ≡ x → option_and_then (λ s. reach true s (front ++ byte ∷ [])) (reader_of x) ≡ Some s
    → (u : Reader) × (given : Option (ℕ × Pair)) × (step true u byte ≡ Ok (s, given)) =
    elim [
      | Ok stepped ↦ λ e h. reach_last front byte stepped.0 s h
      | Err offence ↦ λ e h. absurd (none_reader h)
    ] in
    cases (step true r first) refl is

-- an LF leads to the start of a line
pub flipped : (n : ℕ) → nat_eq n 10 ≡ false → nat_eq 10 n ≡ false
flipped n is = grind (arith, common_steps)

pub none_phase : {to : Phase} → None ≡ Some to → ⊥
none_phase is = cc

pub some_phase : {one to : Phase} → Some one ≡ Some to → to ≡ one
some_phase is = cc

pub text_stuck : (at : ℕ) (text : List ℕ) → phase_after (phase.Text at text) 10 ≡ None
text_stuck at text =
    grind (arith, common_steps)

pub text_stops : (to : Phase) (at : ℕ) (text : List ℕ) → phase_after (phase.Text at text) 10 ≡ Some to → ⊥
text_stops to at text is =
    none_phase (sym (text_stuck at text) ∙ is)

pub lf_starts : (from to : Phase) → phase_after from 10 ≡ Some to → to ≡ phase.Start
lf_starts (phase.First at) to is =
    absurd (none_phase (sym (ap (λ t. cond t (cond (nat_eq at 17) (Some phase.FirstSpaces) (Some (phase.First (at + 1)))) None)
    (flipped (get_or first_text at 0) (no_lf_in first_text at first_text_has_none))) ∙ is))
lf_starts phase.FirstSpaces to is = some_phase is
lf_starts phase.FirstEnd to is = some_phase is
lf_starts phase.Start to is = some_phase is
lf_starts phase.Blank to is = some_phase is
lf_starts phase.End to is = some_phase is
lf_starts (phase.Text at text) to is = absurd (text_stops to at text is)
lf_starts (phase.Timed text) to is = absurd (none_phase is)
lf_starts phase.Gap to is = absurd (none_phase is)
lf_starts (phase.One value) to is = absurd (none_phase is)
lf_starts (phase.Two first) to is = absurd (none_phase is)
lf_starts (phase.Three first value) to is = absurd (none_phase is)
lf_starts (phase.Whole pair) to is = some_phase is
lf_starts phase.Between to is = some_phase is

-- a file that begins with whole lines may continue with any time code's text
pub line_starts : (opening : Option ℕ) (start : List ℕ) → BeginsFile opening start → EndsLine start
    → (p : Position) × (reach true (at_first opening) start ≡ Some (record { phase = phase.Start; position = p }))
line_starts opening start begins (front, lf) =
    let (s, reaches) = reach_front start begins.more (at_first opening) 0 begins.pairs (file_read opening begins.pairs (start ++ begins.more) begins.file) in
    let (u, given, stepped) = reach_last front 10 (at_first opening) s (ap (reach true (at_first opening)) (sym lf) ∙ reaches) in
    let (to, moves, reached_is) = moved_step true u (phase_after u.phase 10) (s, given) stepped in
    let (phase_is, form) = form_step to u.position u.position (s, given) reached_is in
    let at_start : s.phase ≡ phase.Start = phase_is ∙ lf_starts u.phase to moves in
    (s.position, reaches ∙ ap (λ f. Some (record { phase = f; position = s.position })) at_start)

pub form_of_line : (opening : Option ℕ) (start text : List ℕ) (t : TimeCode) → BeginsFile opening start → EndsLine start → IsTimeText t text → BeginsForm (start ++ text)
form_of_line opening start text t begins ends is_text =
    let (p, reaches) = line_starts opening start begins ends in
    let null : Pair = record { a = 128; b = 128 } in
    let line : TimedLine = record { time = t; first = null; more = [] } in
    let word = 56 ∷ 48 ∷ 56 ∷ 48 ∷ [] in
    let more = 32 ∷ ([] ++ (word ++ [])) in
    let spelled = text ++ more in
    let is_line : IsTimedLine line spelled = record {
      text = text;
      blank = 32;
      blanks = [];
      word = word;
      words = [];
      is_text = is_text;
      is_blank_byte = refl;
      are_blanks = tt;
      is_word = record { a = 56; b = 48; c = 56; d = 48; p = 8; q = 0; r = 8; s = 0; spelled = refl; a_is = refl; b_is = refl; c_is = refl; d_is = refl; is = refl };
      are_words = tt;
      spelled = refl;
    } in
    let form = same_phase start (phase.First 0) (at_first_frame opening) (at_first_frame opening) (record { phase = phase.Start; position = p }) reaches in
    let q = form.at in
    let line_reads = timed_read false q q line spelled [] [] is_line refl (lines_read false [] (after_pairs q (null ∷ [])) [] [] refl refl) in
    let all = replay false start (spelled ++ []) (at_first opening) (record { phase = phase.Start; position = q }) 0 form.reaches
    (λ place. record { out = one_a_frame q.next (null ∷ []) ++ []; is = line_reads.at place }) in
    let file = form_sound opening false 0 (start ++ (spelled ++ [])) all.out all.is in
    let same : start ++ (spelled ++ []) ≡ (start ++ text) ++ more =
    ap (λ z. start ++ z) (append-nil spelled) ∙ sym (append_assoc start text more) in
    record { more = more; lines = file.lines; form = subst (IsForm file.lines) same file.form }

-- refusals by their parts
pub refusal_is : (one other : Refusal) → one.place ≡ other.place → one.why ≡ other.why → one ≡ other
refusal_is one other place why =
    ap (λ p. record { place = p; why = one.why }) place ∙ ap (λ w. record { place = other.place; why = w }) why

-- two bytes
pub byte_byte : (opening : Option ℕ) (bytes : List ℕ) (one other : Refusal) → ByteOffends opening bytes one → ByteOffends opening bytes other → one ≡ other
byte_byte opening bytes one other a b =
    ⊎_elim
    (λ low.
    ⊎_elim
    (λ high.
    let same : length b.before ≡ length a.before = omega (arith, low, high) in
    let (mid, is, rest_is) = cut a.before (a.byte ∷ a.rest) b.before (b.byte ∷ b.rest) (sym a.spelled ∙ b.spelled) low in
    let none = no_more_bytes a.before mid b.before is same in
    let front : b.before ≡ a.before = is ∙ (ap (λ z. a.before ++ z) none ∙ append-nil a.before) in
    refusal_is one other (a.place_is ∙ (sym same ∙ sym b.place_is)) (a.why_is ∙ (ap line_why (sym front) ∙ sym b.why_is)))
    (λ early. absurd (byte_early opening bytes b.before (b.byte ∷ b.rest) one a b.spelled b.unoffending.form early))
    (either (length b.before) (length a.before)))
    (λ early. absurd (byte_early opening bytes a.before (a.byte ∷ a.rest) other b a.spelled a.unoffending.form early))
    (either (length a.before) (length b.before))

-- a byte and the end
pub byte_end : (opening : Option ℕ) (bytes : List ℕ) (one other : Refusal) → ByteOffends opening bytes one → EndsEarly opening bytes other → ⊥
byte_end opening bytes one other a b =
    let size : length bytes ≡ length a.before + length (a.byte ∷ a.rest) = ap length a.spelled ∙ length-append a.before (a.byte ∷ a.rest) in
    byte_early opening bytes bytes [] one a (sym (append-nil bytes)) b.unoffending.form (omega (arith, size))

-- a byte and a time code
pub byte_time : (opening : Option ℕ) (bytes : List ℕ) (one other : Refusal) → ByteOffends opening bytes one → TimeOffends opening bytes other → ⊥
byte_time opening bytes one other a b =
    let size : length (b.start ++ b.text) ≡ length b.start + 11 =
    length-append b.start b.text ∙ ap (λ n. length b.start + n) (eleven_long b.time b.text b.is_text) in
    ⊎_elim
    (λ late. time_early opening bytes a.before (a.byte ∷ a.rest) other b a.spelled a.unoffending late)
    (λ early. byte_early opening bytes (b.start ++ b.text) b.rest one a (b.spelled ∙ sym (append_assoc b.start b.text b.rest))
    (form_of_line opening b.start b.text b.time b.begins b.ends b.is_text) (omega (arith, early, size)))
    (either (length b.start + 11) (length a.before))

-- the end and a time code
pub end_time : (opening : Option ℕ) (bytes : List ℕ) (one other : Refusal) → EndsEarly opening bytes one → TimeOffends opening bytes other → ⊥
end_time opening bytes one other a b =
    let size : length bytes ≡ length b.start + length (b.text ++ b.rest) = ap length b.spelled ∙ length-append b.start (b.text ++ b.rest) in
    let rest : length (b.text ++ b.rest) ≡ 11 + length b.rest =
    length-append b.text b.rest ∙ ap (λ n. n + length b.rest) (eleven_long b.time b.text b.is_text) in
    time_early opening bytes bytes [] other b (sym (append-nil bytes)) a.unoffending (omega (arith, size, rest))

-- two time codes
pub later_time : (opening : Option ℕ) (bytes : List ℕ) (one other : Refusal) (a : TimeOffends opening bytes one) (b : TimeOffends opening bytes other) → length a.start < length b.start → ⊥
later_time opening bytes one other a b later =
    ⊎_elim
    (λ far. time_begins opening bytes b.start (b.text ++ b.rest) one a b.spelled b.begins far)
    (λ near. line_early opening bytes b.start (b.text ++ b.rest) one a b.spelled b.ends later near)
    (either (length a.start + 11) (length b.start))

pub same_time : (one other : TimeCode) → Some one ≡ Some other → one ≡ other
same_time one other is = cc

pub time_time : (opening : Option ℕ) (bytes : List ℕ) (one other : Refusal) → TimeOffends opening bytes one → TimeOffends opening bytes other → one ≡ other
time_time opening bytes one other a b =
    ⊎_elim
    (λ low.
    ⊎_elim
    (λ high.
    let same : length b.start ≡ length a.start = omega (arith, low, high) in
    let (mid, is, rest_is) = cut a.start (a.text ++ a.rest) b.start (b.text ++ b.rest) (sym a.spelled ∙ b.spelled) low in
    let none = no_more_bytes a.start mid b.start is same in
    let texts : a.text ++ a.rest ≡ b.text ++ b.rest = rest_is ∙ ap (λ z. z ++ (b.text ++ b.rest)) none in
    let a_size = eleven_long a.time a.text a.is_text in
    let b_size = eleven_long b.time b.text b.is_text in
    let (more, text_is, left_is) = cut a.text a.rest b.text b.rest texts (omega (arith, a_size, b_size)) in
    let nothing = no_more_bytes a.text more b.text text_is (b_size ∙ sym a_size) in
    let text : b.text ≡ a.text = text_is ∙ (ap (λ z. a.text ++ z) nothing ∙ append-nil a.text) in
    let time = same_time a.time b.time (sym (spelled_is_read a.time a.text a.is_text) ∙ (ap time_of_text (sym text) ∙ spelled_is_read b.time b.text b.is_text)) in
    refusal_is one other (a.place_is ∙ (sym same ∙ sym b.place_is)) (a.why_is ∙ (ap time_why time ∙ sym b.why_is)))
    (λ early. absurd (later_time opening bytes one other a b early))
    (either (length b.start) (length a.start)))
    (λ early. absurd (later_time opening bytes other one b a early))
    (either (length a.start) (length b.start))

-- one offence
pub offence_once : (opening : Option ℕ) (bytes : List ℕ) (one other : Refusal) → IsFirstOffence opening bytes one → IsFirstOffence opening bytes other → one ≡ other
offence_once opening bytes one other (inl a) (inl b) = byte_byte opening bytes one other a b
offence_once opening bytes one other (inl a) (inr (inl b)) = absurd (byte_end opening bytes one other a b)
offence_once opening bytes one other (inl a) (inr (inr b)) = absurd (byte_time opening bytes one other a b)
offence_once opening bytes one other (inr (inl a)) (inl b) = absurd (byte_end opening bytes other one b a)
offence_once opening bytes one other (inr (inl a)) (inr (inl b)) =
    refusal_is one other (a.place_is ∙ sym b.place_is) (a.why_is ∙ sym b.why_is)
offence_once opening bytes one other (inr (inl a)) (inr (inr b)) = absurd (end_time opening bytes one other a b)
offence_once opening bytes one other (inr (inr a)) (inl b) = absurd (byte_time opening bytes other one b a)
offence_once opening bytes one other (inr (inr a)) (inr (inl b)) = absurd (end_time opening bytes other one b a)
offence_once opening bytes one other (inr (inr a)) (inr (inr b)) = time_time opening bytes one other a b

-- a file has none
pub no_offence : (opening : Option ℕ) (bytes : List ℕ) (refusal : Refusal) (pairs : List (ℕ × Pair)) → IsFirstOffence opening bytes refusal → IsSccFile opening pairs bytes → ⊥
no_offence opening bytes refusal pairs (inl a) file =
    let size : length bytes ≡ length a.before + length (a.byte ∷ a.rest) = ap length a.spelled ∙ length-append a.before (a.byte ∷ a.rest) in
    let begins : BeginsForm bytes = record { more = []; lines = file.lines; form = subst (IsForm file.lines) (sym (append-nil bytes)) file.form } in
    byte_early opening bytes bytes [] refusal a (sym (append-nil bytes)) begins (omega (arith, size))
no_offence opening bytes refusal pairs (inr (inl a)) file = a.no_file file.lines file.form
no_offence opening bytes refusal pairs (inr (inr a)) file =
    a.offends (record { more = a.rest; pairs = pairs; file = subst (IsSccFile opening pairs) (a.spelled ∙ sym (append_assoc a.start a.text a.rest)) file })
