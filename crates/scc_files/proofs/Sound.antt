-- What is read is an SCC file: the bytes that are taken from a phase on are what may follow there.
use Rattle.std.proofs.Common.{◌≡◌, ℕ, ◌+◌, ◌*◌, ◌<◌, ◌⊎◌, Bool, true, false, cond, nat_eq, refl, sym, ◌∙◌, ap, subst, arith, List, [], ◌∷◌, ◌++◌, append_assoc, length, take, drop, drop-cons, add-one, Option, Some, None, is_some, Result, Ok, Err, inl, inr, ⊎_elim}
use Rattle.std.specs.Prelude.{slice_index, slice_set}
use Rattle.std.specs.Option.{option_and_then, option_map}
use Rattle.std.specs.Result.{result_ok}
use Rattle.std.proofs.Common.{lit<}
use Rattle.std.proofs.Math.Seq.{take-length, take-suc-set}
use Rattle.std.proofs.lemmas.Bool.{eqb-true}
use Rattle.std.proofs.lemmas.List.{length-set}
use Rattle.std.proofs.lemmas.Grind.{common_steps}
use Rattle.cc_base.specs.declared.refusal.Refusal.{Refusal}
use Rattle.line21_codes.specs.declared.pairs.Pair.{Pair}
use Rattle.time_codes.proofs.TextLemmas.{read_is_spelled}
use Rattle.time_codes.specs.Frames.{frame_of}
use Rattle.time_codes.specs.Texts.{IsTimeText, is_digit, time_of_text}
use Rattle.time_codes.specs.declared.time_code.TimeCode.{TimeCode}
use Rattle.scc_files.specs.Lines.{AreBlanks, AreLines, AreSpacedWords, AreSpaces, IsForm, IsLine, IsPairWord, TimedLine}
use Rattle.hex_digits.specs.HexDigits.{hex_value}
use Rattle.scc_files.specs.Phases.{ended, first_text, fits, is_blank, phase_after, word_or_end}
use Rattle.scc_files.specs.Reading.{at_first, at_first_frame, behind, judged, pairs_on, read_from, reached, step_to, text_done, timed, timed_form, with_pair}
use Rattle.scc_files.specs.SccFiles.{one_a_frame}
use Rattle.scc_files.specs.declared.phase.Phase.{Phase}
use Rattle.scc_files.specs.declared.phase.Phase.TheVariants as phase
use Rattle.scc_files.specs.declared.reader.Offence.{Offence}
use Rattle.scc_files.specs.declared.reader.Position.{Position}
use Rattle.scc_files.specs.declared.reader.Reader.{Reader}
use Rattle.scc_files.proofs.Complete.{Placed, after_pairs, judged_time}

abbrev pub Pairs : Type 0
Pairs = List (ℕ × Pair)

-- what may follow: lines at a line's end, spaces and then these, a line at its start, words after a word, and so on
pub record LinesAt (j : Bool) (p : Position) (bytes : List ℕ) (out : Pairs) : Type 0 where
  pub lines : List (Option TimedLine)
  pub are : AreLines lines bytes
  pub placed : Placed j p lines out

pub record SpacesThen (j : Bool) (p : Position) (bytes : List ℕ) (out : Pairs) : Type 0 where
  pub spaces : List ℕ
  pub rest : List ℕ
  pub are : AreSpaces spaces
  pub behind : LinesAt j p rest out
  pub is : bytes ≡ spaces ++ rest

pub record StartAt (j : Bool) (p : Position) (bytes : List ℕ) (out : Pairs) : Type 0 where
  pub line : Option TimedLine
  pub lines : List (Option TimedLine)
  pub spelled : List ℕ
  pub rest : List ℕ
  pub is_line : IsLine line spelled
  pub are : AreLines lines rest
  pub placed : Placed j p (line ∷ lines) out
  pub is : bytes ≡ spelled ++ rest

pub record LfThen (j : Bool) (p : Position) (bytes : List ℕ) (out : Pairs) : Type 0 where
  pub rest : List ℕ
  pub behind : StartAt j p rest out
  pub is : bytes ≡ 10 ∷ rest

pub record WordsThen (j : Bool) (p : Position) (bytes : List ℕ) (out : Pairs) : Type 0 where
  pub pairs : List Pair
  pub words : List ℕ
  pub rest : List ℕ
  pub more : Pairs
  pub are : AreSpacedWords pairs words
  pub behind : LinesAt j (after_pairs p pairs) rest more
  pub made : out ≡ one_a_frame p.next pairs ++ more
  pub is : bytes ≡ words ++ rest

pub record BetweenThen (j : Bool) (p : Position) (bytes : List ℕ) (out : Pairs) : Type 0 where
  pub pairs : List Pair
  pub words : List ℕ
  pub rest : List ℕ
  pub more : Pairs
  pub are : AreSpacedWords pairs (32 ∷ words)
  pub behind : LinesAt j (after_pairs p pairs) rest more
  pub made : out ≡ one_a_frame p.next pairs ++ more
  pub is : bytes ≡ words ++ rest

pub record ThreeThen (first value : ℕ) (j : Bool) (p : Position) (bytes : List ℕ) (out : Pairs) : Type 0 where
  pub d : ℕ
  pub s : ℕ
  pub rest : List ℕ
  pub more : Pairs
  pub d_is : hex_value d ≡ Some s
  pub behind : WordsThen j (pairs_on p 1) rest more
  pub made : out ≡ (p.next, record { a = first; b = 16 * value + s }) ∷ more
  pub is : bytes ≡ d ∷ rest

pub record TwoThen (first : ℕ) (j : Bool) (p : Position) (bytes : List ℕ) (out : Pairs) : Type 0 where
  pub c : ℕ
  pub r : ℕ
  pub rest : List ℕ
  pub c_is : hex_value c ≡ Some r
  pub behind : ThreeThen first r j p rest out
  pub is : bytes ≡ c ∷ rest

pub record OneThen (value : ℕ) (j : Bool) (p : Position) (bytes : List ℕ) (out : Pairs) : Type 0 where
  pub b : ℕ
  pub q : ℕ
  pub rest : List ℕ
  pub b_is : hex_value b ≡ Some q
  pub behind : TwoThen (16 * value + q) j p rest out
  pub is : bytes ≡ b ∷ rest

pub record GapThen (j : Bool) (p : Position) (bytes : List ℕ) (out : Pairs) : Type 0 where
  pub blanks : List ℕ
  pub a : ℕ
  pub value : ℕ
  pub rest : List ℕ
  pub are : AreBlanks blanks
  pub a_is : hex_value a ≡ Some value
  pub behind : OneThen value j p rest out
  pub is : bytes ≡ blanks ++ (a ∷ rest)

pub record TimedThen (j : Bool) (p : Position) (bytes : List ℕ) (out : Pairs) : Type 0 where
  pub blank : ℕ
  pub rest : List ℕ
  pub is_blank_byte : is_blank blank ≡ true
  pub behind : GapThen j p rest out
  pub is : bytes ≡ blank ∷ rest

pub record TextThen (front : List ℕ) (j : Bool) (p : Position) (bytes : List ℕ) (out : Pairs) : Type 0 where
  pub tail : List ℕ
  pub rest : List ℕ
  pub time : TimeCode
  pub s : Position
  pub is_text : IsTimeText time (front ++ tail)
  pub judge : judged_time j p time ≡ Ok s
  pub behind : TimedThen j s rest out
  pub is : bytes ≡ tail ++ rest

pub record FirstThen (at : ℕ) (j : Bool) (p : Position) (bytes : List ℕ) (out : Pairs) : Type 0 where
  pub rest : List ℕ
  pub behind : SpacesThen j p rest out
  pub is : bytes ≡ drop at first_text ++ rest

abbrev pub Follows : Bool → Phase → Position → List ℕ → Pairs → Type 0
Follows j (phase.First at) p bytes out = at < 18 → FirstThen at j p bytes out
Follows j phase.FirstSpaces p bytes out = SpacesThen j p bytes out
Follows j phase.FirstEnd p bytes out = LfThen j p bytes out
Follows j phase.Start p bytes out = StartAt j p bytes out
Follows j phase.Blank p bytes out = SpacesThen j p bytes out
Follows j phase.End p bytes out = LfThen j p bytes out
Follows j (phase.Text at text) p bytes out = length text ≡ 11 → at < 11 → TextThen (take at text) j p bytes out
Follows j (phase.Timed text) p bytes out = TimedThen j p bytes out
Follows j phase.Gap p bytes out = GapThen j p bytes out
Follows j (phase.One value) p bytes out = OneThen value j p bytes out
Follows j (phase.Two first) p bytes out = TwoThen first j p bytes out
Follows j (phase.Three first value) p bytes out = ThreeThen first value j p bytes out
Follows j (phase.Whole pair) p bytes out = WordsThen j p bytes out
Follows j phase.Between p bytes out = BetweenThen j p bytes out

-- what follows where a phase is reached
abbrev pub Reached : Bool → Phase → Position → List ℕ → Pairs → Type 0
Reached j (phase.Timed text) p bytes out = (s : Position) × (judged j p text ≡ Ok s) × TimedThen j s bytes out
Reached j (phase.Whole pair) p bytes out = (more : Pairs) × WordsThen j (pairs_on p 1) bytes more × (out ≡ (p.next, pair) ∷ more)
Reached j to p bytes out = Follows j to p bytes out

-- a test that chose
pub chose : (t : Bool) (x y : Option Phase) (to : Phase) → cond t x y ≡ Some to → ((t ≡ true) × (x ≡ Some to)) ⊎ ((t ≡ false) × (y ≡ Some to))
chose true x y to is = inl (refl, is)
chose false x y to is = inr (refl, is)

-- an answer that is an error, or isn't
abbrev pub failed : {A B : Type 0} → B → Result A B
failed x = Err x

abbrev pub succeeded : {A B : Type 0} → A → Result A B
succeeded x = Ok x

pub err_ok : {A B : Type 0} {x : B} {y : A} → failed {A = A} {B = B} x ≡ succeeded {A = A} {B = B} y → ⊥
err_ok is = cc

pub ok_is : {A B : Type 0} {x y : A} → succeeded {A = A} {B = B} x ≡ succeeded {A = A} {B = B} y → x ≡ y
ok_is is = cc

pub none_some : (y : Phase) → None ≡ Some y → ⊥
none_some y is = cc

pub some_is : (x y : Phase) → Some x ≡ Some y → x ≡ y
some_is x y is = cc

-- a value that was there
pub mapped : (f : ℕ → Phase) (o : Option ℕ) (to : Phase) → option_map f o ≡ Some to → (v : ℕ) × (o ≡ Some v) × (f v ≡ to)
mapped f None to is = absurd (cc)
mapped f (Some v) to is = (v, refl, some_is (f v) to is)

-- line ends
pub behind_lf : (j : Bool) (p : Position) (bytes : List ℕ) (out : Pairs) → StartAt j p bytes out → LinesAt j p (10 ∷ bytes) out
behind_lf j p bytes out l = record {
  lines = l.line ∷ l.lines;
  are = (10 ∷ [], l.spelled, l.rest, inl refl, l.is_line, l.are, ap (λ z. 10 ∷ z) l.is);
  placed = l.placed;
}

pub behind_cr : (j : Bool) (p : Position) (bytes : List ℕ) (out : Pairs) → LfThen j p bytes out → LinesAt j p (13 ∷ bytes) out
behind_cr j p bytes out lf =
    let l = lf.behind in
    record {
      lines = l.line ∷ l.lines;
      are = (13 ∷ 10 ∷ [], l.spelled, l.rest, inr refl, l.is_line, l.are, ap (λ z. 13 ∷ z) (lf.is ∙ ap (λ z. 10 ∷ z) l.is));
      placed = l.placed;
    }

pub behind_end : (j : Bool) (p : Position) (byte : ℕ) (bytes : List ℕ) (out : Pairs) (to : Phase) → ended byte ≡ Some to → Reached j to p bytes out
    → LinesAt j p (byte ∷ bytes) out
behind_end j p byte bytes out to is next =
    ⊎_elim
    (λ c. let lf = subst (λ (t : Phase). Reached j t p bytes out) (sym (some_is phase.Start to c.1)) next in
    subst (λ (b : ℕ). LinesAt j p (b ∷ bytes) out) (sym (eqb-true byte 10 c.0)) (behind_lf j p bytes out lf))
    (λ c.
    ⊎_elim
    (λ d. let cr = subst (λ (t : Phase). Reached j t p bytes out) (sym (some_is phase.End to d.1)) next in
    subst (λ (b : ℕ). LinesAt j p (b ∷ bytes) out) (sym (eqb-true byte 13 d.0)) (behind_cr j p bytes out cr))
    (λ d. absurd (none_some to d.1))
    (chose (nat_eq byte 13) (Some phase.End) None to c.1))
    (chose (nat_eq byte 10) (Some phase.Start) (cond (nat_eq byte 13) (Some phase.End) None) to is)

-- one byte more in front, phase by phase
pub space_more : (j : Bool) (p : Position) (byte : ℕ) (bytes : List ℕ) (out : Pairs) → nat_eq byte 32 ≡ true → SpacesThen j p bytes out → SpacesThen j p (byte ∷ bytes) out
space_more j p byte bytes out is s = record {
  spaces = byte ∷ s.spaces;
  rest = s.rest;
  are = (eqb-true byte 32 is, s.are);
  behind = s.behind;
  is = ap (λ z. byte ∷ z) s.is;
}

pub no_space : (j : Bool) (p : Position) (bytes : List ℕ) (out : Pairs) → LinesAt j p bytes out → SpacesThen j p bytes out
no_space j p bytes out l = record { spaces = []; rest = bytes; are = tt; behind = l; is = refl }

pub blank_line : (j : Bool) (p : Position) (bytes : List ℕ) (out : Pairs) → SpacesThen j p bytes out → StartAt j p bytes out
blank_line j p bytes out s = record {
  line = None;
  lines = s.behind.lines;
  spelled = s.spaces;
  rest = s.rest;
  is_line = s.are;
  are = s.behind.are;
  placed = s.behind.placed;
  is = s.is;
}

pub no_words : (j : Bool) (p : Position) (bytes : List ℕ) (out : Pairs) → LinesAt j p bytes out → WordsThen j p bytes out
no_words j p bytes out l = record { pairs = []; words = []; rest = bytes; more = out; are = tt; behind = l; made = refl; is = refl }

pub end_of_words : (j : Bool) (p : Position) (bytes : List ℕ) (out : Pairs) → LinesAt j p bytes out → BetweenThen j p bytes out
end_of_words j p bytes out l = record { pairs = []; words = []; rest = bytes; more = out; are = (refl, tt); behind = l; made = refl; is = refl }

pub space_behind : (j : Bool) (p : Position) (byte : ℕ) (bytes : List ℕ) (out : Pairs) → nat_eq byte 32 ≡ true → BetweenThen j p bytes out → WordsThen j p (byte ∷ bytes) out
space_behind j p byte bytes out is w =
    subst (λ (b : ℕ). WordsThen j p (b ∷ bytes) out) (sym (eqb-true byte 32 is))
    (record { pairs = w.pairs; words = 32 ∷ w.words; rest = w.rest; more = w.more; are = w.are; behind = w.behind; made = w.made; is = ap (λ z. 32 ∷ z) w.is })

pub wider : (pairs : List Pair) (words : List ℕ) → AreSpacedWords pairs (32 ∷ words) → AreSpacedWords pairs (32 ∷ 32 ∷ words)
wider [] words are = (refl, are)
wider (pair ∷ pairs) words (spaces, word, rest, are_spaces, is_word, are_words, is) =
    (32 ∷ spaces, word, rest, (refl, are_spaces), is_word, are_words, ap (λ z. 32 ∷ z) is)

pub space_between : (j : Bool) (p : Position) (byte : ℕ) (bytes : List ℕ) (out : Pairs) → nat_eq byte 32 ≡ true → BetweenThen j p bytes out → BetweenThen j p (byte ∷ bytes) out
space_between j p byte bytes out is w =
    subst (λ (b : ℕ). BetweenThen j p (b ∷ bytes) out) (sym (eqb-true byte 32 is))
    (record { pairs = w.pairs; words = 32 ∷ w.words; rest = w.rest; more = w.more; are = wider w.pairs w.words w.are; behind = w.behind; made = w.made; is = ap (λ z. 32 ∷ z) w.is })

-- a word, from its first digit on
pub record WordThen (j : Bool) (p : Position) (bytes : List ℕ) (out : Pairs) : Type 0 where
  pub pair : Pair
  pub word : List ℕ
  pub rest : List ℕ
  pub more : Pairs
  pub is_word : IsPairWord pair word
  pub behind : WordsThen j (pairs_on p 1) rest more
  pub made : out ≡ (p.next, pair) ∷ more
  pub is : bytes ≡ word ++ rest

pub word_of_one : (j : Bool) (p : Position) (a value : ℕ) (bytes : List ℕ) (out : Pairs) → hex_value a ≡ Some value → OneThen value j p bytes out
    → WordThen j p (a ∷ bytes) out
word_of_one j p a value bytes out a_is one =
    let two = one.behind in
    let three = two.behind in
    record {
      pair = record { a = 16 * value + one.q; b = 16 * two.r + three.s };
      word = a ∷ one.b ∷ two.c ∷ three.d ∷ [];
      rest = three.rest;
      more = three.more;
      is_word = record {
        a = a;
        b = one.b;
        c = two.c;
        d = three.d;
        p = value;
        q = one.q;
        r = two.r;
        s = three.s;
        spelled = refl;
        a_is = a_is;
        b_is = one.b_is;
        c_is = two.c_is;
        d_is = three.d_is;
        is = refl;
      };
      behind = three.behind;
      made = three.made;
      is = ap (λ z. a ∷ z) (one.is ∙ ap (λ z. one.b ∷ z) (two.is ∙ ap (λ z. two.c ∷ z) three.is));
    }

pub word_between : (j : Bool) (p : Position) (a value : ℕ) (bytes : List ℕ) (out : Pairs) → hex_value a ≡ Some value → OneThen value j p bytes out
    → BetweenThen j p (a ∷ bytes) out
word_between j p a value bytes out a_is one =
    let w = word_of_one j p a value bytes out a_is one in
    let next = w.behind in
    record {
      pairs = w.pair ∷ next.pairs;
      words = w.word ++ next.words;
      rest = next.rest;
      more = next.more;
      are = ([], w.word, next.words, tt, w.is_word, next.are, refl);
      behind = next.behind;
      made = w.made ∙ ap (λ z. (p.next, w.pair) ∷ z) next.made;
      is = w.is ∙ (ap (λ z. w.word ++ z) next.is ∙ sym (append_assoc w.word next.words next.rest));
    }

pub blank_gap : (j : Bool) (p : Position) (byte : ℕ) (bytes : List ℕ) (out : Pairs) → is_blank byte ≡ true → GapThen j p bytes out → GapThen j p (byte ∷ bytes) out
blank_gap j p byte bytes out is g = record {
  blanks = byte ∷ g.blanks;
  a = g.a;
  value = g.value;
  rest = g.rest;
  are = (is, g.are);
  a_is = g.a_is;
  behind = g.behind;
  is = ap (λ z. byte ∷ z) g.is;
}

pub no_gap : (j : Bool) (p : Position) (byte value : ℕ) (bytes : List ℕ) (out : Pairs) → hex_value byte ≡ Some value → OneThen value j p bytes out
    → GapThen j p (byte ∷ bytes) out
no_gap j p byte value bytes out is one =
    record { blanks = []; a = byte; value = value; rest = bytes; are = tt; a_is = is; behind = one; is = refl }

-- a line, after its time code's text
pub line_of_text : (j : Bool) (p : Position) (front : List ℕ) (bytes : List ℕ) (out : Pairs) → TextThen front j p bytes out → StartAt j p (front ++ bytes) out
line_of_text j p front bytes out t =
    let timed = t.behind in
    let gap = timed.behind in
    let w = word_of_one j t.s gap.a gap.value gap.rest out gap.a_is gap.behind in
    let next = w.behind in
    let lines = next.behind in
    let text = front ++ t.tail in
    let line : TimedLine = record { time = t.time; first = w.pair; more = next.pairs } in
    let spelled = text ++ (timed.blank ∷ (gap.blanks ++ (w.word ++ next.words))) in
    let words_is : gap.a ∷ gap.rest ≡ (w.word ++ next.words) ++ next.rest =
    w.is ∙ (ap (λ z. w.word ++ z) next.is ∙ sym (append_assoc w.word next.words next.rest)) in
    let gap_is : timed.rest ≡ (gap.blanks ++ (w.word ++ next.words)) ++ next.rest =
    gap.is ∙ (ap (λ z. gap.blanks ++ z) words_is ∙ sym (append_assoc gap.blanks (w.word ++ next.words) next.rest)) in
    let is : front ++ bytes ≡ spelled ++ next.rest =
    ap (λ z. front ++ z) t.is
    ∙ (sym (append_assoc front t.tail t.rest)
    ∙ (ap (λ z. text ++ z) (timed.is ∙ ap (λ z. timed.blank ∷ z) gap_is)
    ∙ sym (append_assoc text (timed.blank ∷ (gap.blanks ++ (w.word ++ next.words))) next.rest))) in
    let made : out ≡ one_a_frame t.s.next (w.pair ∷ next.pairs) ++ next.more =
    w.made ∙ ap (λ z. (t.s.next, w.pair) ∷ z) next.made in
    record {
      line = Some line;
      lines = lines.lines;
      spelled = spelled;
      rest = next.rest;
      is_line = record {
        text = text;
        blank = timed.blank;
        blanks = gap.blanks;
        word = w.word;
        words = next.words;
        is_text = t.is_text;
        is_blank_byte = timed.is_blank_byte;
        are_blanks = gap.are;
        is_word = w.is_word;
        are_words = next.are;
        spelled = refl;
      };
      are = lines.are;
      placed = (t.s, next.more, t.judge, lines.placed, made);
      is = is;
    }

-- the time code of a text that is judged
pub judged_text : (j : Bool) (p s : Position) (text : List ℕ) → judged j p text ≡ Ok s → (t : TimeCode) × (time_of_text text ≡ Some t) × (judged_time j p t ≡ Ok s)
judged_text true p s text is =
    let cases : (o : Option TimeCode) → time_of_text text ≡ o → timed p (option_and_then (λ t. result_ok (frame_of t)) o) ≡ Ok s
    → (t : TimeCode) × (time_of_text text ≡ Some t) × (judged_time true p t ≡ Ok s) =
    elim [ None ↦ λ e h. absurd (err_ok h) | Some t ↦ λ e h. (t, e, h) ] in
    cases (time_of_text text) refl is
judged_text false p s text is =
    let cases : (o : Option TimeCode) → time_of_text text ≡ o → timed_form p (is_some o) ≡ Ok s
    → (t : TimeCode) × (time_of_text text ≡ Some t) × (judged_time false p t ≡ Ok s) =
    elim [ None ↦ λ e h. absurd (err_ok h) | Some t ↦ λ e h. (t, e, h) ] in
    cases (time_of_text text) refl is

-- a text's bytes, with one more
pub front_more : (at : ℕ) (text : List ℕ) (byte : ℕ) → length text ≡ 11 → at < 11 → take (at + 1) (slice_set text at byte) ≡ take at text ++ (byte ∷ [])
front_more at text byte size early =
    let within : at < length text = omega arith in
    rw add-one (take-suc-set text at byte within)

pub text_more : (j : Bool) (p : Position) (at : ℕ) (text : List ℕ) (byte : ℕ) (bytes : List ℕ) (out : Pairs) → length text ≡ 11 → at < 11
    → TextThen (take (at + 1) (slice_set text at byte)) j p bytes out → TextThen (take at text) j p (byte ∷ bytes) out
text_more j p at text byte bytes out size early t = record {
  tail = byte ∷ t.tail;
  rest = t.rest;
  time = t.time;
  s = t.s;
  is_text = subst (λ (z : List ℕ). IsTimeText t.time z)
      (ap (λ z. z ++ t.tail) (front_more at text byte size early) ∙ append_assoc (take at text) (byte ∷ []) t.tail) t.is_text;
  judge = t.judge;
  behind = t.behind;
  is = ap (λ z. byte ∷ z) t.is;
}

pub text_whole : (j : Bool) (p s : Position) (text : List ℕ) (byte : ℕ) (bytes : List ℕ) (out : Pairs) → length text ≡ 11
    → judged j p (slice_set text 10 byte) ≡ Ok s → TimedThen j s bytes out → TextThen (take 10 text) j p (byte ∷ bytes) out
text_whole j p s text byte bytes out size judge behind =
    let (t, read, judge') = judged_text j p s (slice_set text 10 byte) judge in
    let all : take 11 (slice_set text 10 byte) ≡ slice_set text 10 byte =
    ap (λ n. take n (slice_set text 10 byte)) (sym (length-set text 10 byte ∙ size)) ∙ take-length (slice_set text 10 byte) in
    record {
      tail = byte ∷ [];
      rest = bytes;
      time = t;
      s = s;
      is_text = subst (λ (z : List ℕ). IsTimeText t z) (sym all ∙ front_more 10 text byte size (lit< tt)) (read_is_spelled t (slice_set text 10 byte) read);
      judge = judge';
      behind = behind;
      is = refl;
    }

-- a byte of the first line's text
pub first_more : (j : Bool) (at byte : ℕ) (p : Position) (bytes : List ℕ) (out : Pairs) (to : Phase) → phase_after (phase.First at) byte ≡ Some to → Reached j to p bytes out
    → Follows j (phase.First at) p (byte ∷ bytes) out
first_more j at byte p bytes out to is next = λ early.
    ⊎_elim
    (λ c.
    let at_byte : drop at first_text ≡ byte ∷ drop (at + 1) first_text =
    rw (eqb-true byte (slice_index first_text at) c.0, add-one) (drop-cons first_text at 0 early) in
    ⊎_elim
    (λ d.
    let follows = subst (λ (t : Phase). Reached j t p bytes out) (sym (some_is phase.FirstSpaces to d.1)) next in
    let last : at ≡ 17 = eqb-true at 17 d.0 in
    record {
      rest = bytes;
      behind = follows;
      is = sym (ap (λ z. z ++ bytes) (at_byte ∙ ap (λ n. byte ∷ drop (n + 1) first_text) last));
    })
    (λ d.
    let other : nat_eq at 17 ≡ false = d.0 in
    let within : at + 1 < 18 = grind (arith, common_steps) in
    let follows = subst (λ (t : Phase). Reached j t p bytes out) (sym (some_is (phase.First (at + 1)) to d.1)) next in
    let rest = follows within in
    record { rest = rest.rest; behind = rest.behind; is = ap (λ z. byte ∷ z) rest.is ∙ sym (ap (λ z. z ++ rest.rest) at_byte) })
    (chose (nat_eq at 17) (Some phase.FirstSpaces) (Some (phase.First (at + 1))) to c.1))
    (λ c. absurd (none_some to c.1))
    (chose (nat_eq byte (slice_index first_text at)) (cond (nat_eq at 17) (Some phase.FirstSpaces) (Some (phase.First (at + 1)))) None to is)

pub first_spaces_more : (j : Bool) (byte : ℕ) (p : Position) (bytes : List ℕ) (out : Pairs) (to : Phase) → phase_after phase.FirstSpaces byte ≡ Some to → Reached j to p bytes out
    → SpacesThen j p (byte ∷ bytes) out
first_spaces_more j byte p bytes out to is next =
    ⊎_elim
    (λ c. space_more j p byte bytes out c.0 (subst (λ (t : Phase). Reached j t p bytes out) (sym (some_is phase.FirstSpaces to c.1)) next))
    (λ c.
    ⊎_elim
    (λ d. subst (λ (b : ℕ). SpacesThen j p (b ∷ bytes) out) (sym (eqb-true byte 10 d.0))
    (no_space j p (10 ∷ bytes) out (behind_lf j p bytes out (subst (λ (t : Phase). Reached j t p bytes out) (sym (some_is phase.Start to d.1)) next))))
    (λ d.
    ⊎_elim
    (λ e. subst (λ (b : ℕ). SpacesThen j p (b ∷ bytes) out) (sym (eqb-true byte 13 e.0))
    (no_space j p (13 ∷ bytes) out (behind_cr j p bytes out (subst (λ (t : Phase). Reached j t p bytes out) (sym (some_is phase.FirstEnd to e.1)) next))))
    (λ e. absurd (none_some to e.1))
    (chose (nat_eq byte 13) (Some phase.FirstEnd) None to d.1))
    (chose (nat_eq byte 10) (Some phase.Start) (cond (nat_eq byte 13) (Some phase.FirstEnd) None) to c.1))
    (chose (nat_eq byte 32) (Some phase.FirstSpaces) (cond (nat_eq byte 10) (Some phase.Start) (cond (nat_eq byte 13) (Some phase.FirstEnd) None)) to is)

pub lf_more : (j : Bool) (byte : ℕ) (p : Position) (bytes : List ℕ) (out : Pairs) (to : Phase) → cond (nat_eq byte 10) (Some phase.Start) None ≡ Some to → Reached j to p bytes out
    → LfThen j p (byte ∷ bytes) out
lf_more j byte p bytes out to is next =
    ⊎_elim
    (λ c. record {
      rest = bytes;
      behind = subst (λ (t : Phase). Reached j t p bytes out) (sym (some_is phase.Start to c.1)) next;
      is = ap (λ b. b ∷ bytes) (eqb-true byte 10 c.0);
    })
    (λ c. absurd (none_some to c.1))
    (chose (nat_eq byte 10) (Some phase.Start) None to is)

pub blank_more : (j : Bool) (byte : ℕ) (p : Position) (bytes : List ℕ) (out : Pairs) (to : Phase) → phase_after phase.Blank byte ≡ Some to → Reached j to p bytes out
    → SpacesThen j p (byte ∷ bytes) out
blank_more j byte p bytes out to is next =
    ⊎_elim
    (λ c. space_more j p byte bytes out c.0 (subst (λ (t : Phase). Reached j t p bytes out) (sym (some_is phase.Blank to c.1)) next))
    (λ c. no_space j p (byte ∷ bytes) out (behind_end j p byte bytes out to c.1 next))
    (chose (nat_eq byte 32) (Some phase.Blank) (ended byte) to is)

pub start_more : (j : Bool) (byte : ℕ) (p : Position) (bytes : List ℕ) (out : Pairs) (to : Phase) → phase_after phase.Start byte ≡ Some to → Reached j to p bytes out
    → StartAt j p (byte ∷ bytes) out
start_more j byte p bytes out to is next =
    let text = byte ∷ 0 ∷ 0 ∷ 0 ∷ 0 ∷ 0 ∷ 0 ∷ 0 ∷ 0 ∷ 0 ∷ 0 ∷ [] in
    ⊎_elim
    (λ c.
    let follows = subst (λ (t : Phase). Reached j t p bytes out) (sym (some_is (phase.Text 1 text) to c.1)) next in
    line_of_text j p (byte ∷ []) bytes out (follows refl (lit< tt)))
    (λ c.
    ⊎_elim
    (λ d. blank_line j p (byte ∷ bytes) out
    (space_more j p byte bytes out d.0 (subst (λ (t : Phase). Reached j t p bytes out) (sym (some_is phase.Blank to d.1)) next)))
    (λ d. blank_line j p (byte ∷ bytes) out (no_space j p (byte ∷ bytes) out (behind_end j p byte bytes out to d.1 next)))
    (chose (nat_eq byte 32) (Some phase.Blank) (ended byte) to c.1))
    (chose (is_digit byte) (Some (phase.Text 1 text)) (cond (nat_eq byte 32) (Some phase.Blank) (ended byte)) to is)

pub time_more : (j : Bool) (at : ℕ) (text : List ℕ) (byte : ℕ) (p : Position) (bytes : List ℕ) (out : Pairs) (to : Phase) → phase_after (phase.Text at text) byte ≡ Some to
    → Reached j to p bytes out → Follows j (phase.Text at text) p (byte ∷ bytes) out
time_more j at text byte p bytes out to is next = λ size early.
    ⊎_elim
    (λ c.
    ⊎_elim
    (λ d.
    let ten : at ≡ 10 = eqb-true at 10 d.0 in
    let (s, judge, timed) = subst (λ (t : Phase). Reached j t p bytes out) (sym (some_is (phase.Timed (slice_set text at byte)) to d.1)) next in
    let judge' : judged j p (slice_set text 10 byte) ≡ Ok s = subst (λ (n : ℕ). judged j p (slice_set text n byte) ≡ Ok s) ten judge in
    subst (λ (n : ℕ). TextThen (take n text) j p (byte ∷ bytes) out) (sym ten) (text_whole j p s text byte bytes out size judge' timed))
    (λ d.
    let other : nat_eq at 10 ≡ false = d.0 in
    let within : at + 1 < 11 = grind (arith, common_steps) in
    let follows = subst (λ (t : Phase). Reached j t p bytes out) (sym (some_is (phase.Text (at + 1) (slice_set text at byte)) to d.1)) next in
    text_more j p at text byte bytes out size early (follows (length-set text at byte ∙ size) within))
    (chose (nat_eq at 10) (Some (phase.Timed (slice_set text at byte))) (Some (phase.Text (at + 1) (slice_set text at byte))) to c.1))
    (λ c. absurd (none_some to c.1))
    (chose (fits at byte) (cond (nat_eq at 10) (Some (phase.Timed (slice_set text at byte))) (Some (phase.Text (at + 1) (slice_set text at byte)))) None to is)

pub timed_more : (j : Bool) (byte : ℕ) (p : Position) (bytes : List ℕ) (out : Pairs) (to : Phase) → cond (is_blank byte) (Some phase.Gap) None ≡ Some to → Reached j to p bytes out
    → TimedThen j p (byte ∷ bytes) out
timed_more j byte p bytes out to is next =
    ⊎_elim
    (λ c. record {
      blank = byte;
      rest = bytes;
      is_blank_byte = c.0;
      behind = subst (λ (t : Phase). Reached j t p bytes out) (sym (some_is phase.Gap to c.1)) next;
      is = refl;
    })
    (λ c. absurd (none_some to c.1))
    (chose (is_blank byte) (Some phase.Gap) None to is)

pub gap_more : (j : Bool) (byte : ℕ) (p : Position) (bytes : List ℕ) (out : Pairs) (to : Phase) → phase_after phase.Gap byte ≡ Some to → Reached j to p bytes out
    → GapThen j p (byte ∷ bytes) out
gap_more j byte p bytes out to is next =
    ⊎_elim
    (λ c. blank_gap j p byte bytes out c.0 (subst (λ (t : Phase). Reached j t p bytes out) (sym (some_is phase.Gap to c.1)) next))
    (λ c.
    let (value, known, goes) = mapped (λ value. phase.One value) (hex_value byte) to c.1 in
    no_gap j p byte value bytes out known (subst (λ (t : Phase). Reached j t p bytes out) (sym goes) next))
    (chose (is_blank byte) (Some phase.Gap) (option_map (λ value. phase.One value) (hex_value byte)) to is)

pub one_more : (j : Bool) (value byte : ℕ) (p : Position) (bytes : List ℕ) (out : Pairs) (to : Phase) → phase_after (phase.One value) byte ≡ Some to → Reached j to p bytes out
    → OneThen value j p (byte ∷ bytes) out
one_more j value byte p bytes out to is next =
    let (low, known, goes) = mapped (λ low. phase.Two (16 * value + low)) (hex_value byte) to is in
    record { b = byte; q = low; rest = bytes; b_is = known; behind = subst (λ (t : Phase). Reached j t p bytes out) (sym goes) next; is = refl }

pub two_more : (j : Bool) (first byte : ℕ) (p : Position) (bytes : List ℕ) (out : Pairs) (to : Phase) → phase_after (phase.Two first) byte ≡ Some to → Reached j to p bytes out
    → TwoThen first j p (byte ∷ bytes) out
two_more j first byte p bytes out to is next =
    let (value, known, goes) = mapped (λ value. phase.Three first value) (hex_value byte) to is in
    record { c = byte; r = value; rest = bytes; c_is = known; behind = subst (λ (t : Phase). Reached j t p bytes out) (sym goes) next; is = refl }

pub three_more : (j : Bool) (first value byte : ℕ) (p : Position) (bytes : List ℕ) (out : Pairs) (to : Phase) → phase_after (phase.Three first value) byte ≡ Some to
    → Reached j to p bytes out → ThreeThen first value j p (byte ∷ bytes) out
three_more j first value byte p bytes out to is next =
    let (low, known, goes) = mapped (λ low. phase.Whole (record { a = first; b = 16 * value + low })) (hex_value byte) to is in
    let (more, words, made) = subst (λ (t : Phase). Reached j t p bytes out) (sym goes) next in
    record { d = byte; s = low; rest = bytes; more = more; d_is = known; behind = words; made = made; is = refl }

pub whole_more : (j : Bool) (pair : Pair) (byte : ℕ) (p : Position) (bytes : List ℕ) (out : Pairs) (to : Phase) → phase_after (phase.Whole pair) byte ≡ Some to
    → Reached j to p bytes out → WordsThen j p (byte ∷ bytes) out
whole_more j pair byte p bytes out to is next =
    ⊎_elim
    (λ c. space_behind j p byte bytes out c.0 (subst (λ (t : Phase). Reached j t p bytes out) (sym (some_is phase.Between to c.1)) next))
    (λ c. no_words j p (byte ∷ bytes) out (behind_end j p byte bytes out to c.1 next))
    (chose (nat_eq byte 32) (Some phase.Between) (ended byte) to is)

pub between_more : (j : Bool) (byte : ℕ) (p : Position) (bytes : List ℕ) (out : Pairs) (to : Phase) → phase_after phase.Between byte ≡ Some to → Reached j to p bytes out
    → BetweenThen j p (byte ∷ bytes) out
between_more j byte p bytes out to is next =
    let cases : (o : Option ℕ) → hex_value byte ≡ o → word_or_end byte o ≡ Some to → BetweenThen j p (byte ∷ bytes) out =
    elim [
      | None ↦ λ e h. end_of_words j p (byte ∷ bytes) out (behind_end j p byte bytes out to h next)
      | Some value ↦ λ e h. word_between j p byte value bytes out e (subst (λ (t : Phase). Reached j t p bytes out) (sym (some_is (phase.One value) to h)) next)
    ] in
    ⊎_elim
    (λ c. space_between j p byte bytes out c.0 (subst (λ (t : Phase). Reached j t p bytes out) (sym (some_is phase.Between to c.1)) next))
    (λ c. cases (hex_value byte) refl c.1)
    (chose (nat_eq byte 32) (Some phase.Between) (word_or_end byte (hex_value byte)) to is)

-- one byte more in front, at any phase
pub byte_more : (from : Phase) (j : Bool) (byte : ℕ) (p : Position) (bytes : List ℕ) (out : Pairs) (to : Phase) → phase_after from byte ≡ Some to → Reached j to p bytes out
    → Follows j from p (byte ∷ bytes) out
byte_more (phase.First at) j byte p bytes out to is next = first_more j at byte p bytes out to is next
byte_more phase.FirstSpaces j byte p bytes out to is next = first_spaces_more j byte p bytes out to is next
byte_more phase.FirstEnd j byte p bytes out to is next = lf_more j byte p bytes out to is next
byte_more phase.Start j byte p bytes out to is next = start_more j byte p bytes out to is next
byte_more phase.Blank j byte p bytes out to is next = blank_more j byte p bytes out to is next
byte_more phase.End j byte p bytes out to is next = lf_more j byte p bytes out to is next
byte_more (phase.Text at text) j byte p bytes out to is next = time_more j at text byte p bytes out to is next
byte_more (phase.Timed text) j byte p bytes out to is next = timed_more j byte p bytes out to is next
byte_more phase.Gap j byte p bytes out to is next = gap_more j byte p bytes out to is next
byte_more (phase.One value) j byte p bytes out to is next = one_more j value byte p bytes out to is next
byte_more (phase.Two first) j byte p bytes out to is next = two_more j first byte p bytes out to is next
byte_more (phase.Three first value) j byte p bytes out to is next = three_more j first value byte p bytes out to is next
byte_more (phase.Whole pair) j byte p bytes out to is next = whole_more j pair byte p bytes out to is next
byte_more phase.Between j byte p bytes out to is next = between_more j byte p bytes out to is next

-- the end of a file
pub no_lines : (j : Bool) (p : Position) (out : Pairs) → out ≡ [] → LinesAt j p [] out
no_lines j p out is = record { lines = []; are = refl; placed = is }

pub cannot_end : {A : Type 0} (refusal : Refusal) (out : Pairs) → cond false (Ok []) (Err refusal) ≡ Ok out → A
cannot_end refusal out is = absurd (err_ok is)

pub nothing : (out : Pairs) → succeeded {A = Pairs} {B = Refusal} [] ≡ succeeded {A = Pairs} {B = Refusal} out → out ≡ []
nothing out is = sym (ok_is is)

pub end_sound : (from : Phase) (j : Bool) (place : ℕ) (p : Position) (out : Pairs) → read_from j place (record { phase = from; position = p }) [] ≡ Ok out
    → Follows j from p [] out
end_sound (phase.First at) j place p out is = cannot_end _ out is
end_sound phase.FirstSpaces j place p out is = no_space j p [] out (no_lines j p out (nothing out is))
end_sound phase.FirstEnd j place p out is = cannot_end _ out is
end_sound phase.Start j place p out is = blank_line j p [] out (no_space j p [] out (no_lines j p out (nothing out is)))
end_sound phase.Blank j place p out is = no_space j p [] out (no_lines j p out (nothing out is))
end_sound phase.End j place p out is = cannot_end _ out is
end_sound (phase.Text at text) j place p out is = cannot_end _ out is
end_sound (phase.Timed text) j place p out is = cannot_end _ out is
end_sound phase.Gap j place p out is = cannot_end _ out is
end_sound (phase.One value) j place p out is = cannot_end _ out is
end_sound (phase.Two first) j place p out is = cannot_end _ out is
end_sound (phase.Three first value) j place p out is = cannot_end _ out is
end_sound (phase.Whole pair) j place p out is = no_words j p [] out (no_lines j p out (nothing out is))
end_sound phase.Between j place p out is = end_of_words j p [] out (no_lines j p out (nothing out is))

-- what a step led to
pub led : (j : Bool) (r : Reader) (m : Option Phase) (place : ℕ) (rest : Reader → Result Pairs Refusal) (out : Pairs) → behind place (step_to j r m) rest ≡ Ok out
    → (to : Phase) × (m ≡ Some to) × (behind place (reached j r.position to) rest ≡ Ok out)
led j r None place rest out is = absurd (err_ok is)
led j r (Some to) place rest out is = (to, refl, is)

pub pair_led : (placed : ℕ × Pair) (rest : Result Pairs Refusal) (out : Pairs) → with_pair (Some placed) rest ≡ Ok out → (more : Pairs) × (rest ≡ Ok more) × (out ≡ placed ∷ more)
pair_led placed (Ok more) out is = (more, refl, sym (ok_is is))
pair_led placed (Err refusal) out is = absurd (err_ok is)

pub text_led : (to : Phase) (judge : Result Position Offence) (place : ℕ) (rest : Reader → Result Pairs Refusal) (out : Pairs) → behind place (text_done to judge) rest ≡ Ok out
    → (s : Position) × (judge ≡ Ok s) × (rest (record { phase = to; position = s }) ≡ Ok out)
text_led to (Ok s) place rest out is = (s, refl, is)
text_led to (Err offence) place rest out is = absurd (err_ok is)

-- what is read follows
abbrev pub ReadsOn : Bool → ℕ → List ℕ → Type 0
ReadsOn j place bytes = (from : Phase) (p : Position) (out : Pairs) → read_from j place (record { phase = from; position = p }) bytes ≡ Ok out → Follows j from p bytes out

pub reached_sound : (to : Phase) (j : Bool) (place : ℕ) (p : Position) (bytes : List ℕ) (out : Pairs) → ReadsOn j (place + 1) bytes
    → behind place (reached j p to) (λ s. read_from j (place + 1) s bytes) ≡ Ok out → Reached j to p bytes out
reached_sound (phase.First at) j place p bytes out more is = more (phase.First at) p out is
reached_sound phase.FirstSpaces j place p bytes out more is = more phase.FirstSpaces p out is
reached_sound phase.FirstEnd j place p bytes out more is = more phase.FirstEnd p out is
reached_sound phase.Start j place p bytes out more is = more phase.Start p out is
reached_sound phase.Blank j place p bytes out more is = more phase.Blank p out is
reached_sound phase.End j place p bytes out more is = more phase.End p out is
reached_sound (phase.Text at text) j place p bytes out more is = more (phase.Text at text) p out is
reached_sound (phase.Timed text) j place p bytes out more is =
    let (s, judge, rest) = text_led (phase.Timed text) (judged j p text) place (λ s. read_from j (place + 1) s bytes) out is in
    (s, judge, more (phase.Timed text) s out rest)
reached_sound phase.Gap j place p bytes out more is = more phase.Gap p out is
reached_sound (phase.One value) j place p bytes out more is = more (phase.One value) p out is
reached_sound (phase.Two first) j place p bytes out more is = more (phase.Two first) p out is
reached_sound (phase.Three first value) j place p bytes out more is = more (phase.Three first value) p out is
reached_sound (phase.Whole pair) j place p bytes out more is =
    let (rest, read, made) = pair_led (p.next, pair) (read_from j (place + 1) (record { phase = phase.Whole pair; position = pairs_on p 1 }) bytes) out is in
    (rest, more (phase.Whole pair) (pairs_on p 1) rest read, made)
reached_sound phase.Between j place p bytes out more is = more phase.Between p out is

pub sound : (j : Bool) (bytes : List ℕ) (place : ℕ) → ReadsOn j place bytes
sound j [] place from p out is = end_sound from j place p out is
sound j (byte ∷ bytes) place from p out is =
    let (to, moves, read) = led j (record { phase = from; position = p }) (phase_after from byte) place (λ s. read_from j (place + 1) s bytes) out is in
    byte_more from j byte p bytes out to moves (reached_sound to j place p bytes out (sound j bytes (place + 1)) read)

-- a whole file is one in form, of these lines
pub record IsReadForm (opening : Option ℕ) (j : Bool) (bytes : List ℕ) (out : Pairs) : Type 0 where
  pub lines : List (Option TimedLine)
  pub form : IsForm lines bytes
  pub placed : Placed j (at_first_frame opening) lines out

pub form_sound : (opening : Option ℕ) (j : Bool) (place : ℕ) (bytes : List ℕ) (out : Pairs) → read_from j place (at_first opening) bytes ≡ Ok out → IsReadForm opening j bytes out
form_sound opening j place bytes out is =
    let first = sound j bytes place (phase.First 0) (at_first_frame opening) out is (lit< tt) in
    let spaces = first.behind in
    record {
      lines = spaces.behind.lines;
      form = record {
        spaces = spaces.spaces;
        rest = spaces.rest;
        are_spaces = spaces.are;
        are_lines = spaces.behind.are;
        spelled = first.is ∙ ap (λ z. first_text ++ z) spaces.is;
      };
      placed = spaces.behind.placed;
    }
