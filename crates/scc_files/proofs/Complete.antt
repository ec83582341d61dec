-- SCC files are read as their pairs: what a line says is taken byte by byte.
use Rattle.std.proofs.Common.{◌≡◌, ℕ, ◌+◌, ◌-◌, ◌*◌, ◌≤◌, Bool, true, false, cond, nat_lt, nat_eq, max, refl, sym, ◌∙◌, ap, subst, arith, List, [], ◌∷◌, ◌++◌, append_assoc, length, add-zero, Option, Some, None, is_some, unwrap_or, Result, Ok, Err, ⊎_elim}
use Rattle.std.specs.Prelude.{slice_set}
use Rattle.std.specs.Option.{option_and_then, option_map}
use Rattle.std.specs.Result.{result_ok}
use Rattle.std.proofs.lemmas.Grind.{common_steps}
use Rattle.line21_codes.specs.declared.pairs.Pair.{Pair}
use Rattle.time_codes.proofs.TextLemmas.{ones_digit, spelled_is_read, tens_digit}
use Rattle.time_codes.specs.Frames.{frame_number, frame_of}
use Rattle.time_codes.specs.Texts.{HasTwoDigits, mark, ones, tens, text_of, time_of_text}
use Rattle.time_codes.specs.TimeCodes.{is_time_code}
use Rattle.time_codes.specs.declared.time_code.TimeCode.{TimeCode}
use Rattle.cc_base.specs.declared.why.Why.TheVariants as why
use Rattle.scc_files.specs.Lines.{AreBlanks, AreLines, AreSpacedWords, AreSpaces, IsForm, IsLineEnd, IsPairWord, IsTimedLine, TimedLine}
use Rattle.hex_digits.specs.HexDigits.{hex_value}
use Rattle.scc_files.specs.Phases.{ended, fits, is_blank, may_end, phase_after, why_in, word_or_end}
use Rattle.scc_files.specs.Reading.{at_first, at_first_frame, behind, judged, line_at, pairs_on, read_file, read_from, reached, step_to, text_done, timed, timed_form, with_pair}
use Rattle.scc_files.specs.SccFiles.{AreTimed, IsSccFile, one_a_frame, placed_from}
use Rattle.scc_files.specs.declared.phase.Phase.{Phase}
use Rattle.scc_files.specs.declared.phase.Phase.TheVariants as phase
use Rattle.scc_files.specs.declared.reader.Offence.{Offence}
use Rattle.scc_files.specs.declared.reader.Position.{Position}

-- at any place, the bytes are read as these pairs
pub record Reads (judging : Bool) (to : Phase) (p : Position) (bytes : List ℕ) (out : List (ℕ × Pair)) : Type 0 where
  pub at : (place : ℕ) → read_from judging place (record { phase = to; position = p }) bytes ≡ Ok out

-- one byte more in front
pub one : (j : Bool) (p : Position) (from to : Phase) (byte : ℕ) (rest : List ℕ) (out : List (ℕ × Pair)) → phase_after from byte ≡ Some to
    → reached j p to ≡ Ok (record { phase = to; position = p }, None) → Reads j to p rest out → Reads j from p (byte ∷ rest) out
one j p from to byte rest out moves plain read = record {
  at = λ place.
      ap (λ m. behind place (step_to j (record { phase = from; position = p }) m) (λ s. read_from j (place + 1) s rest)) moves
      ∙ (ap (λ x. behind place x (λ s. read_from j (place + 1) s rest)) plain ∙ read.at (place + 1));
}

pub one_pair : (j : Bool) (p : Position) (from : Phase) (pair : Pair) (byte : ℕ) (rest : List ℕ) (out : List (ℕ × Pair))
    → phase_after from byte ≡ Some (phase.Whole pair) → Reads j (phase.Whole pair) (pairs_on p 1) rest out → Reads j from p (byte ∷ rest) ((p.next, pair) ∷ out)
one_pair j p from pair byte rest out moves read = record {
  at = λ place.
      ap (λ m. behind place (step_to j (record { phase = from; position = p }) m) (λ s. read_from j (place + 1) s rest)) moves
      ∙ ap (λ x. with_pair (Some (p.next, pair)) x) (read.at (place + 1));
}

pub one_text : (j : Bool) (p s : Position) (from : Phase) (text : List ℕ) (byte : ℕ) (rest : List ℕ) (out : List (ℕ × Pair))
    → phase_after from byte ≡ Some (phase.Timed text) → judged j p text ≡ Ok s → Reads j (phase.Timed text) s rest out → Reads j from p (byte ∷ rest) out
one_text j p s from text byte rest out moves is read = record {
  at = λ place.
      ap (λ m. behind place (step_to j (record { phase = from; position = p }) m) (λ s. read_from j (place + 1) s rest)) moves
      ∙ (ap (λ x. behind place (text_done (phase.Timed text) x) (λ s. read_from j (place + 1) s rest)) is ∙ read.at (place + 1));
}

-- spaces, and TABs and spaces, are passed over
pub first_spaces : (j : Bool) (p : Position) (spaces rest : List ℕ) (out : List (ℕ × Pair)) → AreSpaces spaces
    → Reads j phase.FirstSpaces p rest out → Reads j phase.FirstSpaces p (spaces ++ rest) out
first_spaces j p [] rest out are read = read
first_spaces j p (b ∷ bs) rest out are read =
    one j p phase.FirstSpaces phase.FirstSpaces b (bs ++ rest) out (ap (λ z. phase_after phase.FirstSpaces z) are.0) refl (first_spaces j p bs rest out are.1 read)

pub blank_spaces : (j : Bool) (p : Position) (spaces rest : List ℕ) (out : List (ℕ × Pair)) → AreSpaces spaces
    → Reads j phase.Blank p rest out → Reads j phase.Blank p (spaces ++ rest) out
blank_spaces j p [] rest out are read = read
blank_spaces j p (b ∷ bs) rest out are read =
    one j p phase.Blank phase.Blank b (bs ++ rest) out (ap (λ z. phase_after phase.Blank z) are.0) refl (blank_spaces j p bs rest out are.1 read)

pub between_spaces : (j : Bool) (p : Position) (spaces rest : List ℕ) (out : List (ℕ × Pair)) → AreSpaces spaces
    → Reads j phase.Between p rest out → Reads j phase.Between p (spaces ++ rest) out
between_spaces j p [] rest out are read = read
between_spaces j p (b ∷ bs) rest out are read =
    one j p phase.Between phase.Between b (bs ++ rest) out (ap (λ z. phase_after phase.Between z) are.0) refl (between_spaces j p bs rest out are.1 read)

pub gap_blanks : (j : Bool) (p : Position) (blanks rest : List ℕ) (out : List (ℕ × Pair)) → AreBlanks blanks
    → Reads j phase.Gap p rest out → Reads j phase.Gap p (blanks ++ rest) out
gap_blanks j p [] rest out are read = read
gap_blanks j p (b ∷ bs) rest out are read =
    one j p phase.Gap phase.Gap b (bs ++ rest) out
    (ap (λ t. cond t (Some phase.Gap) (option_map (λ value. phase.One value) (hex_value b))) are.0) refl (gap_blanks j p bs rest out are.1 read)

-- a hex digit is no TAB or space
pub hex_is_no_blank : (byte value : ℕ) → hex_value byte ≡ Some value → is_blank byte ≡ false
hex_is_no_blank byte value is = grind (arith, common_steps)

pub hex_is_no_space : (byte value : ℕ) → hex_value byte ≡ Some value → nat_eq byte 32 ≡ false
hex_is_no_space byte value is = grind (arith, common_steps)

-- a word, after its first digit
pub word_read : (j : Bool) (p : Position) (v q r s : ℕ) (b c d : ℕ) (rest : List ℕ) (out : List (ℕ × Pair))
    → hex_value b ≡ Some q → hex_value c ≡ Some r → hex_value d ≡ Some s
    → Reads j (phase.Whole (record { a = 16 * v + q; b = 16 * r + s })) (pairs_on p 1) rest out
    → Reads j (phase.One v) p (b ∷ c ∷ d ∷ rest) ((p.next, record { a = 16 * v + q; b = 16 * r + s }) ∷ out)
word_read j p v q r s b c d rest out b_is c_is d_is read =
    one j p (phase.One v) (phase.Two (16 * v + q)) b (c ∷ d ∷ rest) _ (ap (λ o. option_map (λ low. phase.Two (16 * v + low)) o) b_is) refl
    (one j p (phase.Two (16 * v + q)) (phase.Three (16 * v + q) r) c (d ∷ rest) _ (ap (λ o. option_map (λ value. phase.Three (16 * v + q) value) o) c_is) refl
    (one_pair j p (phase.Three (16 * v + q) r) (record { a = 16 * v + q; b = 16 * r + s }) d rest out
    (ap (λ o. option_map (λ low. phase.Whole (record { a = 16 * v + q; b = 16 * r + low })) o) d_is) read))

pub gap_word : (j : Bool) (p : Position) (pair : Pair) (word rest : List ℕ) (out : List (ℕ × Pair)) → IsPairWord pair word
    → Reads j (phase.Whole pair) (pairs_on p 1) rest out → Reads j phase.Gap p (word ++ rest) ((p.next, pair) ∷ out)
gap_word j p pair word rest out w read =
    let read' = subst (λ (x : Pair). Reads j (phase.Whole x) (pairs_on p 1) rest out) w.is read in
    let moves : phase_after phase.Gap w.a ≡ Some (phase.One w.p) =
    ap (λ t. cond t (Some phase.Gap) (option_map (λ value. phase.One value) (hex_value w.a))) (hex_is_no_blank w.a w.p w.a_is)
    ∙ ap (λ o. option_map (λ value. phase.One value) o) w.a_is in
    let whole = one j p phase.Gap (phase.One w.p) w.a (w.b ∷ w.c ∷ w.d ∷ rest) _ moves refl
    (word_read j p w.p w.q w.r w.s w.b w.c w.d rest out w.b_is w.c_is w.d_is read') in
    subst (λ (x : Pair). Reads j phase.Gap p (word ++ rest) ((p.next, x) ∷ out)) (sym w.is)
    (subst (λ (z : List ℕ). Reads j phase.Gap p (z ++ rest) ((p.next, record { a = 16 * w.p + w.q; b = 16 * w.r + w.s }) ∷ out)) (sym w.spelled) whole)

pub between_word : (j : Bool) (p : Position) (pair : Pair) (word rest : List ℕ) (out : List (ℕ × Pair)) → IsPairWord pair word
    → Reads j (phase.Whole pair) (pairs_on p 1) rest out → Reads j phase.Between p (word ++ rest) ((p.next, pair) ∷ out)
between_word j p pair word rest out w read =
    let read' = subst (λ (x : Pair). Reads j (phase.Whole x) (pairs_on p 1) rest out) w.is read in
    let moves : phase_after phase.Between w.a ≡ Some (phase.One w.p) =
    ap (λ t. cond t (Some phase.Between) (word_or_end w.a (hex_value w.a))) (hex_is_no_space w.a w.p w.a_is)
    ∙ ap (λ o. word_or_end w.a o) w.a_is in
    let whole = one j p phase.Between (phase.One w.p) w.a (w.b ∷ w.c ∷ w.d ∷ rest) _ moves refl
    (word_read j p w.p w.q w.r w.s w.b w.c w.d rest out w.b_is w.c_is w.d_is read') in
    subst (λ (x : Pair). Reads j phase.Between p (word ++ rest) ((p.next, x) ∷ out)) (sym w.is)
    (subst (λ (z : List ℕ). Reads j phase.Between p (z ++ rest) ((p.next, record { a = 16 * w.p + w.q; b = 16 * w.r + w.s }) ∷ out)) (sym w.spelled) whole)

-- a phase at which a line may end
pub record IsEnding (at : Phase) : Type 0 where
  pub cr : Phase
  pub may : may_end at ≡ true
  pub lf : phase_after at 10 ≡ Some phase.Start
  pub cr_is : phase_after at 13 ≡ Some cr
  pub cr_lf : phase_after cr 10 ≡ Some phase.Start
  pub plain : (j : Bool) (p : Position) → reached j p cr ≡ Ok (record { phase = cr; position = p }, None)

pub first_ends : IsEnding phase.FirstSpaces
first_ends = record { cr = phase.FirstEnd; may = refl; lf = refl; cr_is = refl; cr_lf = refl; plain = λ j p. refl }

pub start_ends : IsEnding phase.Start
start_ends = record { cr = phase.End; may = refl; lf = refl; cr_is = refl; cr_lf = refl; plain = λ j p. refl }

pub blank_ends : IsEnding phase.Blank
blank_ends = record { cr = phase.End; may = refl; lf = refl; cr_is = refl; cr_lf = refl; plain = λ j p. refl }

pub whole_ends : (pair : Pair) → IsEnding (phase.Whole pair)
whole_ends pair = record { cr = phase.End; may = refl; lf = refl; cr_is = refl; cr_lf = refl; plain = λ j p. refl }

pub between_ends : IsEnding phase.Between
between_ends = record { cr = phase.End; may = refl; lf = refl; cr_is = refl; cr_lf = refl; plain = λ j p. refl }

-- where pairs more stand
abbrev pub after_pairs : Position → List Pair → Position
after_pairs p [] = p
after_pairs p (pair ∷ pairs) = after_pairs (pairs_on p 1) pairs

-- what follows wherever a line may end
abbrev pub AtEnds : Bool → Position → List ℕ → List (ℕ × Pair) → Type 0
AtEnds j p rest out = (at : Phase) → IsEnding at → Reads j at p rest out

-- words after a word
pub words_read : (j : Bool) (pairs : List Pair) (p : Position) (last : Pair) (words rest : List ℕ) (out : List (ℕ × Pair)) → AreSpacedWords pairs words
    → AtEnds j (after_pairs p pairs) rest out → Reads j (phase.Whole last) p (words ++ rest) (one_a_frame p.next pairs ++ out)
words_read j [] p last [] rest out are ends = ends (phase.Whole last) (whole_ends last)
words_read j [] p last (b ∷ bs) rest out are ends =
    one j p (phase.Whole last) phase.Between b (bs ++ rest) out (ap (λ z. phase_after (phase.Whole last) z) are.0) refl
    (between_spaces j p bs rest out are.1 (ends phase.Between between_ends))
words_read j (pair ∷ pairs) p last words rest out (spaces, word, more, are_spaces, is_word, are_words, spelled) ends =
    let next = words_read j pairs (pairs_on p 1) pair more rest out are_words ends in
    let here = between_word j p pair word (more ++ rest) _ is_word next in
    let gap = between_spaces j p spaces (word ++ (more ++ rest)) _ are_spaces here in
    let all = one j p (phase.Whole last) phase.Between 32 (spaces ++ (word ++ (more ++ rest))) _ refl refl gap in
    let same : 32 ∷ (spaces ++ (word ++ (more ++ rest))) ≡ words ++ rest =
    ap (λ z. 32 ∷ z) (ap (λ z. spaces ++ z) (sym (append_assoc word more rest)) ∙ sym (append_assoc spaces (word ++ more) rest))
    ∙ ap (λ z. z ++ rest) (sym spelled) in
    subst (λ (z : List ℕ). Reads j (phase.Whole last) p z (one_a_frame p.next (pair ∷ pairs) ++ out)) same all

-- a time code's text
pub digit_step : (j : Bool) (p : Position) (at : ℕ) (text : List ℕ) (byte : ℕ) (rest : List ℕ) (out : List (ℕ × Pair)) → fits at byte ≡ true
    → nat_eq at 10 ≡ false → Reads j (phase.Text (at + 1) (slice_set text at byte)) p rest out → Reads j (phase.Text at text) p (byte ∷ rest) out
digit_step j p at text byte rest out fit early read =
    one j p (phase.Text at text) (phase.Text (at + 1) (slice_set text at byte)) byte rest out
    (ap (λ t. cond t (cond (nat_eq at 10) (Some (phase.Timed (slice_set text at byte))) (Some (phase.Text (at + 1) (slice_set text at byte)))) None) fit
    ∙ ap (λ t. cond t (Some (phase.Timed (slice_set text at byte))) (Some (phase.Text (at + 1) (slice_set text at byte)))) early)
    refl read

pub mark_fits : (drop_frame : Bool) → fits 8 (mark drop_frame) ≡ true
mark_fits true = refl
mark_fits false = refl

pub text_read : (j : Bool) (p s : Position) (t : TimeCode) (rest : List ℕ) (out : List (ℕ × Pair)) → HasTwoDigits t → judged j p (text_of t) ≡ Ok s
    → Reads j (phase.Timed (text_of t)) s rest out → Reads j phase.Start p (text_of t ++ rest) out
text_read j p s t rest out two is read =
    let last : phase_after (phase.Text 10 (tens t.h ∷ ones t.h ∷ 58 ∷ tens t.m ∷ ones t.m ∷ 58 ∷ tens t.s ∷ ones t.s ∷ mark t.drop_frame ∷ tens t.f ∷ 0 ∷ [])) (ones t.f)
    ≡ Some (phase.Timed (text_of t)) =
    ap (λ v. cond v (Some (phase.Timed (text_of t))) None) (ones_digit t.f) in
    let start : phase_after phase.Start (tens t.h) ≡ Some (phase.Text 1 (tens t.h ∷ 0 ∷ 0 ∷ 0 ∷ 0 ∷ 0 ∷ 0 ∷ 0 ∷ 0 ∷ 0 ∷ 0 ∷ [])) =
    ap (λ v. cond v (Some (phase.Text 1 (tens t.h ∷ 0 ∷ 0 ∷ 0 ∷ 0 ∷ 0 ∷ 0 ∷ 0 ∷ 0 ∷ 0 ∷ 0 ∷ [])))
    (cond (nat_eq (tens t.h) 32) (Some phase.Blank) (ended (tens t.h)))) (tens_digit t.h two.h) in
    one j p phase.Start _ (tens t.h) _ out start refl
    (digit_step j p 1 _ (ones t.h) _ out (ones_digit t.h) refl
    (digit_step j p 2 _ 58 _ out refl refl
    (digit_step j p 3 _ (tens t.m) _ out (tens_digit t.m two.m) refl
    (digit_step j p 4 _ (ones t.m) _ out (ones_digit t.m) refl
    (digit_step j p 5 _ 58 _ out refl refl
    (digit_step j p 6 _ (tens t.s) _ out (tens_digit t.s two.s) refl
    (digit_step j p 7 _ (ones t.s) _ out (ones_digit t.s) refl
    (digit_step j p 8 _ (mark t.drop_frame) _ out (mark_fits t.drop_frame) refl
    (digit_step j p 9 _ (tens t.f) _ out (tens_digit t.f two.f) refl
    (one_text j p s (phase.Text 10 (tens t.h ∷ ones t.h ∷ 58 ∷ tens t.m ∷ ones t.m ∷ 58 ∷ tens t.s ∷ ones t.s ∷ mark t.drop_frame ∷ tens t.f ∷ 0 ∷ []))
    (text_of t) (ones t.f) rest out last is read))))))))))

-- a time code judged, or not
abbrev pub judged_time : Bool → Position → TimeCode → Result Position Offence
judged_time true p t = timed p (result_ok (frame_of t))
judged_time false p t = Ok p

pub judged_is : (j : Bool) (p : Position) (text : List ℕ) (t : TimeCode) → time_of_text text ≡ Some t → judged j p text ≡ judged_time j p t
judged_is true p text t is = ap (λ o. timed p (option_and_then (λ t. result_ok (frame_of t)) o)) is
judged_is false p text t is = ap (λ o. timed_form p (is_some o)) is

-- the pairs of lines, from a position on
abbrev pub Placed : Bool → Position → List (Option TimedLine) → List (ℕ × Pair) → Type 0
Placed j p [] out = out ≡ []
Placed j p (None ∷ lines) out = Placed j p lines out
Placed j p (Some line ∷ lines) out =
    (s : Position) × (more : List (ℕ × Pair)) × (judged_time j p line.time ≡ Ok s) × Placed j (after_pairs s (line.first ∷ line.more)) lines more
    × (out ≡ one_a_frame s.next (line.first ∷ line.more) ++ more)

-- a line
pub blank_read : (j : Bool) (p : Position) (spelled rest : List ℕ) (out : List (ℕ × Pair)) → AreSpaces spelled → AtEnds j p rest out
    → Reads j phase.Start p (spelled ++ rest) out
blank_read j p [] rest out are ends = ends phase.Start start_ends
blank_read j p (b ∷ bs) rest out are ends =
    one j p phase.Start phase.Blank b (bs ++ rest) out (ap (λ z. phase_after phase.Start z) are.0) refl (blank_spaces j p bs rest out are.1 (ends phase.Blank blank_ends))

pub timed_read : (j : Bool) (p s : Position) (line : TimedLine) (spelled rest : List ℕ) (out : List (ℕ × Pair)) → IsTimedLine line spelled
    → judged_time j p line.time ≡ Ok s → AtEnds j (after_pairs s (line.first ∷ line.more)) rest out
    → Reads j phase.Start p (spelled ++ rest) (one_a_frame s.next (line.first ∷ line.more) ++ out)
timed_read j p s line spelled rest out l is ends =
    let words = words_read j line.more (pairs_on s 1) line.first l.words rest out l.are_words ends in
    let word = gap_word j s line.first l.word (l.words ++ rest) _ l.is_word words in
    let gap = gap_blanks j s l.blanks (l.word ++ (l.words ++ rest)) _ l.are_blanks word in
    let blank = one j s (phase.Timed (text_of line.time)) phase.Gap l.blank (l.blanks ++ (l.word ++ (l.words ++ rest))) _
    (ap (λ v. cond v (Some phase.Gap) None) l.is_blank_byte) refl gap in
    let known : time_of_text (text_of line.time) ≡ Some line.time =
    spelled_is_read line.time (text_of line.time) (record { digits = l.is_text.digits; spelled = refl }) in
    let judge : judged j p (text_of line.time) ≡ Ok s = judged_is j p (text_of line.time) line.time known ∙ is in
    let all = text_read j p s line.time (l.blank ∷ (l.blanks ++ (l.word ++ (l.words ++ rest)))) _ l.is_text.digits judge blank in
    let same : text_of line.time ++ (l.blank ∷ (l.blanks ++ (l.word ++ (l.words ++ rest)))) ≡ spelled ++ rest =
    ap (λ z. text_of line.time ++ (l.blank ∷ z))
    (ap (λ z. l.blanks ++ z) (sym (append_assoc l.word l.words rest)) ∙ sym (append_assoc l.blanks (l.word ++ l.words) rest))
    ∙ (sym (append_assoc (text_of line.time) (l.blank ∷ (l.blanks ++ (l.word ++ l.words))) rest)
    ∙ ap (λ z. z ++ rest) (ap (λ z. z ++ (l.blank ∷ (l.blanks ++ (l.word ++ l.words)))) (sym l.is_text.spelled) ∙ sym l.spelled)) in
    subst (λ (z : List ℕ). Reads j phase.Start p z (one_a_frame s.next (line.first ∷ line.more) ++ out)) same all

-- a line's end
pub end_read : (j : Bool) (p : Position) (at : Phase) (end rest : List ℕ) (out : List (ℕ × Pair)) → IsEnding at → IsLineEnd end
    → Reads j phase.Start p rest out → Reads j at p (end ++ rest) out
end_read j p at end rest out ends is read =
    ⊎_elim
    (λ e. subst (λ (z : List ℕ). Reads j at p (z ++ rest) out) (sym e) (one j p at phase.Start 10 rest out ends.lf refl read))
    (λ e. subst (λ (z : List ℕ). Reads j at p (z ++ rest) out) (sym e)
    (one j p at ends.cr 13 (10 ∷ rest) out ends.cr_is (ends.plain j p) (one j p ends.cr phase.Start 10 rest out ends.cr_lf refl read)))
    is

-- lines
pub lines_read : (j : Bool) (lines : List (Option TimedLine)) (p : Position) (bytes : List ℕ) (out : List (ℕ × Pair)) → AreLines lines bytes → Placed j p lines out
    → AtEnds j p bytes out
lines_read j [] p bytes out are placed = λ at ends.
    subst (λ (z : List ℕ). Reads j at p z out) (sym are)
    (subst (λ (z : List (ℕ × Pair)). Reads j at p [] z) (sym placed)
    (record { at = λ place. ap (λ v. cond v (Ok []) (Err (record { place = place; why = why_in at }))) ends.may }))
lines_read j (None ∷ lines) p bytes out (end, spelled, rest, is_end, is_line, are_lines, is) placed = λ at ends.
    subst (λ (z : List ℕ). Reads j at p z out) (sym is)
    (end_read j p at end (spelled ++ rest) out ends is_end (blank_read j p spelled rest out is_line (lines_read j lines p rest out are_lines placed)))
lines_read j (Some line ∷ lines) p bytes out (end, spelled, rest, is_end, is_line, are_lines, is) (s, more, judge, placed, made) = λ at ends.
    subst (λ (z : List (ℕ × Pair)). Reads j at p bytes z) (sym made)
    (subst (λ (z : List ℕ). Reads j at p z (one_a_frame s.next (line.first ∷ line.more) ++ more)) (sym is)
    (end_read j p at end (spelled ++ rest) _ ends is_end
    (timed_read j p s line spelled rest more is_line judge (lines_read j lines (after_pairs s (line.first ∷ line.more)) rest more are_lines placed))))

-- a whole file
pub form_read : (opening : Option ℕ) (j : Bool) (lines : List (Option TimedLine)) (bytes : List ℕ) (out : List (ℕ × Pair)) → IsForm lines bytes → Placed j (at_first_frame opening) lines out
    → read_from j 0 (at_first opening) bytes ≡ Ok out
form_read opening j lines bytes out form placed =
    let rest = lines_read j lines (at_first_frame opening) form.rest out form.are_lines placed phase.FirstSpaces first_ends in
    let spaces = first_spaces j (at_first_frame opening) form.spaces form.rest out form.are_spaces rest in
    ap (λ z. read_from j 0 (at_first opening) z) form.spelled ∙ spaces.at 18

-- where pairs more stand, counted
pub after_is : (pairs : List Pair) (p : Position) → after_pairs p pairs ≡ pairs_on p (length pairs)
after_is [] p = ap (λ n. record p { next = n }) (sym (add-zero p.next))
after_is (pair ∷ pairs) p =
    let same : p.next + 1 + length pairs ≡ p.next + length (pair ∷ pairs) = omega arith in
    after_is pairs (pairs_on p 1) ∙ ap (λ n. record p { next = n }) same

pub number_is : (t : TimeCode) (frame : ℕ) → frame_of t ≡ Ok frame → frame_number t ≡ frame
number_is t frame is =
    let cases : (b : Bool) → is_time_code t ≡ b → frame_number t ≡ frame =
    elim [ true ↦ λ e. cc | false ↦ λ e. absurd (grind (arith, common_steps)) ] in
    cases (is_time_code t) refl

pub timed_is : (p : Position) (t : TimeCode) (frame : ℕ) → frame_of t ≡ Ok frame → p.last ≤ frame → judged_time true p t ≡ Ok (line_at p frame)
timed_is p t frame is low =
    let late : nat_lt frame p.last ≡ false = grind (arith, common_steps) in
    ap (λ r. timed p (result_ok r)) is
    ∙ ap (λ v. cond v (Err (record { back = 10; why = why.Backwards })) (Ok (line_at p frame))) late

-- lines in the order of their times have the pairs that are placed
pub timed_placed : (lines : List (Option TimedLine)) (p : Position) → AreTimed p.last lines → Placed true p lines (placed_from p.start p.next lines)
timed_placed [] p are = refl
timed_placed (None ∷ lines) p are = timed_placed lines p are
timed_placed (Some line ∷ lines) p (frame, is, low, rest) =
    let s = line_at p frame in
    let number : frame_number line.time ≡ frame = number_is line.time frame is in
    let q_is = after_is (line.first ∷ line.more) s in
    let more = timed_placed lines (pairs_on s (length (line.first ∷ line.more))) rest in
    let count : s.next + length (line.first ∷ line.more) ≡ s.next + 1 + length line.more = omega arith in
    let made : placed_from p.start p.next (Some line ∷ lines)
    ≡ one_a_frame s.next (line.first ∷ line.more) ++ placed_from s.start (s.next + length (line.first ∷ line.more)) lines =
    ap (λ n. one_a_frame (max (n - unwrap_or p.start n) p.next) (line.first ∷ line.more)
    ++ placed_from (Some (unwrap_or p.start n)) (max (n - unwrap_or p.start n) p.next + 1 + length line.more) lines) number
    ∙ ap (λ n. one_a_frame s.next (line.first ∷ line.more) ++ placed_from s.start n lines) (sym count) in (
      s,
      placed_from s.start (s.next + length (line.first ∷ line.more)) lines,
      timed_is p line.time frame is low,
      subst (λ (q : Position). Placed true q lines (placed_from s.start (s.next + length (line.first ∷ line.more)) lines)) (sym q_is) more,
      made,
    )

-- an SCC file is read as its pairs
pub file_read : (opening : Option ℕ) (pairs : List (ℕ × Pair)) (bytes : List ℕ) → IsSccFile opening pairs bytes → read_file opening bytes ≡ Ok pairs
file_read opening pairs bytes file =
    form_read opening true file.lines bytes pairs file.form
    (subst (λ (z : List (ℕ × Pair)). Placed true (at_first_frame opening) file.lines z) (sym file.placed) (timed_placed file.lines (at_first_frame opening) file.timed))
