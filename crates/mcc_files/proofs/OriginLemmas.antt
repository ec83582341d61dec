-- What the bytes are that were read, byte by byte.
use Rattle.std.proofs.Common.{◌≡◌, ℕ, ◌+◌, ◌≤◌, ◌<◌, ◌⊎◌, inl, inr, ◌==◌, ◌&&◌, Bool, true, false, cond, List, [], ◌∷◌, ◌++◌, append_assoc, append-nil, length, take, get_or, Option, Some, None, is_some, Result, Ok, unwrap_or, refl, ap, sym, ◌∙◌, subst, arith}
use Rattle.std.specs.Prelude.{slice_index}
use Rattle.std.proofs.lemmas.Bool.{cases_Bool, eqb-true, eqb-false}
use Rattle.std.proofs.lemmas.List.{take_more}
use Rattle.std.proofs.Math.Seq.{take-append_seam}
use Rattle.time_codes.specs.Countings.{counting_text}
use Rattle.time_codes.proofs.TextLemmas.{both}
use Rattle.time_codes.specs.declared.counting.Counting.{Counting}
use Rattle.scc_files.specs.Lines.{AreBlanks, IsLineEnd}
use Rattle.mcc_files.specs.Payloads.{Payload, payload_bytes}
use Rattle.mcc_files.specs.PayloadReading.{is_whole}
use Rattle.mcc_files.specs.declared.payload_reader.Offence.{Offence}
use Rattle.mcc_files.specs.Lines.{AreMccLines, IsMccForm, IsMccLine, Line, Version, attribute, format_text, nothing, one, packet, rate, rate_name, two}
use Rattle.mcc_files.specs.MccFiles.{IsMccFile, TimedPackets}
use Rattle.mcc_files.specs.Phases.{rate_bytes, rate_count}
use Rattle.mcc_files.specs.Reading.{State, at_first, behind_cr, behind_first, ended_by_cr, ended_by_lf, ends, ends_at_lf, ends_in, ends_payload, ends_rate, first_read, in_phase, payload_in, placed_with, read_file, run, started, take_byte, taken, within}
use Rattle.mcc_files.specs.declared.phase.Phase.{Phase}
use Rattle.mcc_files.specs.declared.phase.Phase.TheVariants as phase
use Rattle.mcc_files.specs.declared.phase.RateText.{RateText}
use Rattle.mcc_files.proofs.FrontLemmas.{spaces_more, stands_payload, taken_so, whole_text, within_next}
use Rattle.mcc_files.proofs.Origins.{BehindFirst, Front, InFirst, InLine, Origin, OriginIn, told_of, version_of}
use Rattle.mcc_files.proofs.RunLemmas.{ok_same, read_as, went}
use Rattle.mcc_files.proofs.ToldLemmas.{TellAll, Tells, Told, none_is_some, some_same, tell_more, told_nothing, told_say}

-- the open line as one that ends
pub record LineOf (s : State) (t : Told) (front : List ℕ) (gives : Bool) : Type 0 where
  pub line : Line
  pub is : IsMccLine (version_of s.two) line front
  pub tells : Tells t line (told_of (started s gives))

pub plain_line : (s : State) (t : Told) (front : List ℕ) (gives : Bool) → ◌≡◌ {A = Option Bool} (Some false) (Some gives) → LineOf s t front false → LineOf s t front gives
plain_line s t front gives is line = subst (λ (b : Bool). LineOf s t front b) (some_same false gives is) line

pub rate_ends : (o : Option Counting) (gives : Bool) → ends_rate o ≡ Some gives → (is_some o ≡ true) × (◌≡◌ {A = Option Bool} (Some false) (Some gives))
rate_ends (Some count) gives is = (refl, is)
rate_ends None gives is = absurd (none_is_some gives is)

pub payload_ends : (whole gives : Bool) → ends_payload whole ≡ Some gives → (whole ≡ true) × (true ≡ gives)
payload_ends true gives is = (refl, some_same true gives is)
payload_ends false gives is = absurd (none_is_some gives is)

-- the packet of a line
pub payload_again : (payload : Payload) → payload_in (payload_bytes payload) ≡ payload
payload_again payload = rw (take-append_seam payload.user _) refl

abbrev pub with_packet : Told → Payload → Told
with_packet t payload = record t { placed = t.placed ++ (unwrap_or t.last 0, payload) ∷ [] }

pub told_packet : (s : State) (t : Told) (frame : ℕ) (payload : Payload) → told_of s ≡ record t { last = Some frame } → s.payload.bytes ≡ payload_bytes payload
    → told_of (started s true) ≡ record t { last = Some frame; placed = t.placed ++ (frame, payload) ∷ [] }
told_packet s t frame payload told bytes =
    let same : payload_in s.payload.bytes ≡ payload = ap (λ b. payload_in b) bytes ∙ payload_again payload in
    ap (λ p. with_packet (told_of s) p) same ∙ ap (λ x. with_packet x payload) told

pub front_line : (p : Phase) (s : State) (t : Told) (front : List ℕ) (gives : Bool) → Front p s t front → ends_in p s.payload.bytes ≡ Some gives → LineOf s t front gives
front_line (phase.First at) s t front gives f is = absurd f
front_line phase.FirstSpaces s t front gives f is = absurd f
front_line phase.FirstEnd s t front gives f is = absurd f
front_line phase.Start s t front gives f is =
    plain_line s t front gives is (record { line = nothing; is = inl (subst (λ (x : List ℕ). AreBlanks x) (sym f.0) tt); tells = f.1 })
front_line phase.Blank s t front gives f is = plain_line s t front gives is (record { line = nothing; is = inl f.0; tells = f.1 })
front_line phase.Slash s t front gives f is = absurd (none_is_some gives is)
front_line phase.Comment s t front gives f is = plain_line s t front gives is (record { line = nothing; is = inr f.0; tells = f.1 })
front_line (phase.Name k) s t front gives f is = absurd (none_is_some gives is)
front_line phase.Value s t front gives f is = plain_line s t front gives is (record { line = attribute; is = f.is; tells = (f.none, f.told) })
front_line (phase.Rate text) s t front gives f is =
    let (some, plain) = rate_ends (rate_count text) gives is in
    let (count, whole) = whole_text text some in
    plain_line s t front gives plain
    (record {
      line = rate count;
      is = record {
        spaces = [];
        are_spaces = tt;
        spelled = f.spelled ∙ (ap (λ x. rate_name ++ (61 ∷ rate_bytes x)) whole ∙ ap (λ x. rate_name ++ (61 ∷ x)) (sym (append-nil (counting_text count))));
      };
      tells = (f.no_packet, f.no_rate, f.told ∙ ap (λ (x : RateText). record t { count = rate_count x }) whole);
    })
front_line phase.RateSpaces s t front gives f is =
    plain_line s t front gives is (record { line = rate f.count; is = f.is; tells = (f.no_packet, f.no_rate, f.told) })
front_line phase.Time s t front gives f is = absurd (none_is_some gives is)
front_line phase.Timed s t front gives f is = absurd (none_is_some gives is)
front_line phase.Dot s t front gives f is = absurd (none_is_some gives is)
front_line phase.Field s t front gives f is = absurd (none_is_some gives is)
front_line (phase.Digits many) s t front gives f is = absurd (none_is_some gives is)
front_line phase.Payload s t front gives f is =
    let (whole, same) = payload_ends (is_whole s.payload.bytes) gives is in
    let w = stands_payload f.payload_text s.payload f.stands whole in
    subst (λ (b : Bool). LineOf s t front b) same
    (record {
      line = packet f.timed.time w.packet;
      is = record {
        text = f.text;
        past = f.past;
        payload_text = f.payload_text;
        blanks = [];
        is_text = f.timed.is_text;
        is_past = f.is_past;
        is_payload = w.is;
        are_blanks = tt;
        spelled = f.spelled ∙ ap (λ x. f.text ++ (f.past ++ (9 ∷ x))) (sym (append-nil f.payload_text));
      };
      tells = (f.timed.count, f.timed.frame, f.timed.counted, f.timed.framed, told_packet s t f.timed.frame w.packet f.timed.told w.bytes);
    })
front_line phase.Behind s t front gives f is =
    subst (λ (b : Bool). LineOf s t front b) (some_same true gives is)
    (record {
      line = packet f.timed.time f.packet;
      is = record {
        text = f.text;
        past = f.past;
        payload_text = f.payload_text;
        blanks = f.blanks;
        is_text = f.timed.is_text;
        is_past = f.is_past;
        is_payload = f.is_payload;
        are_blanks = f.are_blanks;
        spelled = f.spelled;
      };
      tells = (f.timed.count, f.timed.frame, f.timed.counted, f.timed.framed, told_packet s t f.timed.frame f.packet f.timed.told f.bytes);
    })
front_line (phase.End other) s t front gives f is = absurd (none_is_some gives is)

-- the bytes of a packet whose line may end
pub bytes_again : (bytes : List ℕ) (payload : Payload) → bytes ≡ payload_bytes payload → bytes ≡ payload_bytes (payload_in bytes)
bytes_again bytes payload is = is ∙ ap (λ p. payload_bytes p) (sym (ap (λ b. payload_in b) is ∙ payload_again payload))

pub no_packet_line : ◌≡◌ {A = Option Bool} (Some false) (Some true) → ⊥
no_packet_line is = cc

pub rate_no_packet : (o : Option Counting) → ends_rate o ≡ Some true → ⊥
rate_no_packet (Some count) is = no_packet_line is
rate_no_packet None is = none_is_some true is

pub front_bytes : (p : Phase) (s : State) (t : Told) (front : List ℕ) → Front p s t front → ends_in p s.payload.bytes ≡ Some true → s.payload.bytes ≡ payload_bytes (payload_in s.payload.bytes)
front_bytes (phase.First at) s t front f is = absurd f
front_bytes phase.FirstSpaces s t front f is = absurd f
front_bytes phase.FirstEnd s t front f is = absurd f
front_bytes phase.Start s t front f is = absurd (no_packet_line is)
front_bytes phase.Blank s t front f is = absurd (no_packet_line is)
front_bytes phase.Slash s t front f is = absurd (none_is_some true is)
front_bytes phase.Comment s t front f is = absurd (no_packet_line is)
front_bytes (phase.Name k) s t front f is = absurd (none_is_some true is)
front_bytes phase.Value s t front f is = absurd (no_packet_line is)
front_bytes (phase.Rate text) s t front f is = absurd (rate_no_packet (rate_count text) is)
front_bytes phase.RateSpaces s t front f is = absurd (no_packet_line is)
front_bytes phase.Time s t front f is = absurd (none_is_some true is)
front_bytes phase.Timed s t front f is = absurd (none_is_some true is)
front_bytes phase.Dot s t front f is = absurd (none_is_some true is)
front_bytes phase.Field s t front f is = absurd (none_is_some true is)
front_bytes (phase.Digits many) s t front f is = absurd (none_is_some true is)
front_bytes phase.Payload s t front f is =
    let w = stands_payload f.payload_text s.payload f.stands (payload_ends (is_whole s.payload.bytes) true is).0 in
    bytes_again s.payload.bytes w.packet w.bytes
front_bytes phase.Behind s t front f is = bytes_again s.payload.bytes f.packet f.bytes
front_bytes (phase.End other) s t front f is = absurd (none_is_some true is)

-- one line more
pub lines_more : (version : Version) (lines : List Line) (rest end front : List ℕ) (line : Line) → AreMccLines version lines rest → IsLineEnd end → IsMccLine version line front
    → AreMccLines version (lines ++ line ∷ []) (rest ++ (end ++ front))
lines_more version [] rest end front line are is_end is =
    (end, front, [], is_end, is, refl, ap (λ r. r ++ (end ++ front)) are ∙ ap (λ x. end ++ x) (sym (append-nil front)))
lines_more version (first ∷ lines) rest end front line (end', spelled', rest', is_end', is', are, same) is_end is = (
  end',
  spelled',
  rest' ++ (end ++ front),
  is_end',
  is',
  lines_more version lines rest' end front line are is_end is,
  ap (λ r. r ++ (end ++ front)) same ∙ (append_assoc end' (spelled' ++ rest') (end ++ front) ∙ ap (λ x. end' ++ x) (append_assoc spelled' rest' (end ++ front))),
)

pub form_more : (version : Version) (lines : List Line) (head end front : List ℕ) (line : Line) → IsMccForm version lines head → IsLineEnd end → IsMccLine version line front
    → IsMccForm version (lines ++ line ∷ []) (head ++ (end ++ front))
form_more version lines head end front line form is_end is = record {
  spaces = form.spaces;
  rest = form.rest ++ (end ++ front);
  are_spaces = form.are_spaces;
  are_lines = lines_more version lines form.rest end front line form.are_lines is_end is;
  spelled = ap (λ h. h ++ (end ++ front)) form.spelled
      ∙ (append_assoc (format_text version) (form.spaces ++ form.rest) (end ++ front) ∙ ap (λ x. format_text version ++ x) (append_assoc form.spaces form.rest (end ++ front)));
}

-- a line has ended, and the next one begins
pub line_started : (before end text : List ℕ) (s : State) (gives : Bool) (version : Bool) (lines : List Line) (head end' : List ℕ) (told : Told) (line : Line)
    → version ≡ s.two → IsMccForm (version_of version) lines head → IsLineEnd end' → TellAll told_nothing lines told → IsMccLine (version_of version) line text
    → Tells told line (told_of (started s gives)) → IsLineEnd end → before ≡ head ++ (end' ++ (text ++ end)) → InLine before (started s gives)
line_started before end text s gives version lines head end' told line same form is_end' tell is tells is_end spelled = record {
  lines = lines ++ line ∷ [];
  head = head ++ (end' ++ text);
  end = end;
  front = [];
  told = told_of (started s gives);
  form = subst (λ (b : Bool). IsMccForm (version_of b) (lines ++ line ∷ []) (head ++ (end' ++ text))) same
      (form_more (version_of version) lines head end' text line form is_end' is);
  is_end = is_end;
  tell = tell_more lines told_nothing told line (told_of (started s gives)) tell tells;
  spelled = spelled ∙ (ap (λ x. head ++ x) (sym (append_assoc end' text end)) ∙ (sym (append_assoc head (end' ++ text) end) ∙ ap (λ x. (head ++ (end' ++ text)) ++ x) (sym (append-nil end))));
  line = (refl, refl);
}

-- an open line isn't the first one
pub in_line_origin : (p : Phase) (before : List ℕ) (s : State) → s.phase ≡ p → InLine before s → OriginIn p before s
in_line_origin (phase.First at) before s is o = absurd (subst (λ (p : Phase). Front p s o.told o.front) is o.line)
in_line_origin phase.FirstSpaces before s is o = absurd (subst (λ (p : Phase). Front p s o.told o.front) is o.line)
in_line_origin phase.FirstEnd before s is o = absurd (subst (λ (p : Phase). Front p s o.told o.front) is o.line)
in_line_origin phase.Start before s is o = o
in_line_origin phase.Blank before s is o = o
in_line_origin phase.Slash before s is o = o
in_line_origin phase.Comment before s is o = o
in_line_origin (phase.Name k) before s is o = o
in_line_origin phase.Value before s is o = o
in_line_origin (phase.Rate text) before s is o = o
in_line_origin phase.RateSpaces before s is o = o
in_line_origin phase.Time before s is o = o
in_line_origin phase.Timed before s is o = o
in_line_origin phase.Dot before s is o = o
in_line_origin phase.Field before s is o = o
in_line_origin (phase.Digits many) before s is o = o
in_line_origin phase.Payload before s is o = o
in_line_origin phase.Behind before s is o = o
in_line_origin (phase.End gives) before s is o = o

-- the first line, or a line after it
pub data Where (p : Phase) (before : List ℕ) (s : State) : Type 0 where
  in_first : (at : ℕ) → p ≡ phase.First at → InFirst at before s → Where p before s
  behind_first_text : p ≡ phase.FirstSpaces → BehindFirst [] before s → Where p before s
  behind_first_cr : p ≡ phase.FirstEnd → BehindFirst (13 ∷ []) before s → Where p before s
  in_line : InLine before s → Where p before s

pub where_is : (p : Phase) (before : List ℕ) (s : State) → OriginIn p before s → Where p before s
where_is (phase.First at) before s o = in_first at refl o
where_is phase.FirstSpaces before s o = behind_first_text refl o
where_is phase.FirstEnd before s o = behind_first_cr refl o
where_is phase.Start before s o = in_line o
where_is phase.Blank before s o = in_line o
where_is phase.Slash before s o = in_line o
where_is phase.Comment before s o = in_line o
where_is (phase.Name k) before s o = in_line o
where_is phase.Value before s o = in_line o
where_is (phase.Rate text) before s o = in_line o
where_is phase.RateSpaces before s o = in_line o
where_is phase.Time before s o = in_line o
where_is phase.Timed before s o = in_line o
where_is phase.Dot before s o = in_line o
where_is phase.Field before s o = in_line o
where_is (phase.Digits many) before s o = in_line o
where_is phase.Payload before s o = in_line o
where_is phase.Behind before s o = in_line o
where_is (phase.End gives) before s o = in_line o

-- a line's LF
pub lf_so : (s next : State) (found : Option Bool) → ended_by_lf s found ≡ Ok next → (gives : Bool) × (found ≡ Some gives) × (started s gives ≡ next)
lf_so s next (Some gives) is = (gives, refl, ok_same (started s gives) next is)
lf_so s next None is = absurd (cc)

pub behind_text : (before text spaces end : List ℕ) (byte : ℕ) → before ≡ text ++ (spaces ++ end) → before ++ byte ∷ [] ≡ text ++ (spaces ++ (end ++ byte ∷ []))
behind_text before text spaces end byte spelled =
    ap (λ x. x ++ byte ∷ []) spelled ∙ (append_assoc text (spaces ++ end) (byte ∷ []) ∙ ap (λ x. text ++ x) (append_assoc spaces end (byte ∷ [])))

pub first_started : (before cr : List ℕ) (s : State) → BehindFirst cr before s → IsLineEnd (cr ++ 10 ∷ []) → InLine (before ++ 10 ∷ []) (started s false)
first_started before cr s o is_end = record {
  lines = [];
  head = format_text (version_of s.two) ++ o.spaces;
  end = cr ++ 10 ∷ [];
  front = [];
  told = told_nothing;
  form = record {
    spaces = o.spaces;
    rest = [];
    are_spaces = o.are;
    are_lines = refl;
    spelled = ap (λ x. format_text (version_of s.two) ++ x) (sym (append-nil o.spaces));
  };
  is_end = is_end;
  tell = refl;
  spelled = behind_text before (format_text (version_of s.two)) o.spaces cr 10 o.spelled
      ∙ (sym (append_assoc (format_text (version_of s.two)) o.spaces (cr ++ 10 ∷ [])) ∙ ap (λ x. (format_text (version_of s.two) ++ o.spaces) ++ x) (sym (append-nil (cr ++ 10 ∷ []))));
  line = (refl, o.fresh);
}

pub ended_line : (before end : List ℕ) (s : State) (gives : Bool) (o : InLine before s) → LineOf s o.told o.front gives → IsLineEnd end → InLine (before ++ end) (started s gives)
ended_line before end s gives o l is_end =
    line_started (before ++ end) end o.front s gives s.two o.lines o.head o.end o.told l.line refl o.form o.is_end o.tell l.is l.tells is_end
    (ap (λ x. x ++ end) o.spelled ∙ (append_assoc o.head (o.end ++ o.front) end ∙ ap (λ x. o.head ++ x) (append_assoc o.end o.front end)))

pub lf_line : (p : Phase) (before : List ℕ) (s : State) (gives : Bool) → s.phase ≡ p → (o : InLine before s) → ends_in p s.payload.bytes ≡ Some gives → InLine (before ++ 10 ∷ []) (started s gives)
lf_line p before s gives at o is =
    ended_line before (10 ∷ []) s gives o (front_line p s o.told o.front gives (subst (λ (q : Phase). Front q s o.told o.front) at o.line) is) (inl refl)

pub lf_origin : (p : Phase) (before : List ℕ) (s : State) (gives : Bool) → s.phase ≡ p → OriginIn p before s → ends_at_lf p (ends_in p s.payload.bytes) ≡ Some gives
    → InLine (before ++ 10 ∷ []) (started s gives)
lf_origin (phase.First number) before s gives at o is = absurd (none_is_some gives is)
lf_origin phase.FirstSpaces before s gives at o is =
    subst (λ (b : Bool). InLine (before ++ 10 ∷ []) (started s b)) (some_same false gives is) (first_started before [] s o (inl refl))
lf_origin phase.FirstEnd before s gives at o is =
    subst (λ (b : Bool). InLine (before ++ 10 ∷ []) (started s b)) (some_same false gives is) (first_started before (13 ∷ []) s o (inr refl))
lf_origin phase.Start before s gives at o is = lf_line phase.Start before s gives at o is
lf_origin phase.Blank before s gives at o is = lf_line phase.Blank before s gives at o is
lf_origin phase.Slash before s gives at o is = absurd (none_is_some gives is)
lf_origin phase.Comment before s gives at o is = lf_line phase.Comment before s gives at o is
lf_origin (phase.Name k) before s gives at o is = absurd (none_is_some gives is)
lf_origin phase.Value before s gives at o is = lf_line phase.Value before s gives at o is
lf_origin (phase.Rate text) before s gives at o is = lf_line (phase.Rate text) before s gives at o is
lf_origin phase.RateSpaces before s gives at o is = lf_line phase.RateSpaces before s gives at o is
lf_origin phase.Time before s gives at o is = absurd (none_is_some gives is)
lf_origin phase.Timed before s gives at o is = absurd (none_is_some gives is)
lf_origin phase.Dot before s gives at o is = absurd (none_is_some gives is)
lf_origin phase.Field before s gives at o is = absurd (none_is_some gives is)
lf_origin (phase.Digits many) before s gives at o is = absurd (none_is_some gives is)
lf_origin phase.Payload before s gives at o is = lf_line phase.Payload before s gives at o is
lf_origin phase.Behind before s gives at o is = lf_line phase.Behind before s gives at o is
lf_origin (phase.End other) before s gives at o is =
    let f = subst (λ (q : Phase). Front q s o.told o.front) at o.line in
    let same : other ≡ gives = some_same other gives is in
    subst (λ (b : Bool). InLine (before ++ 10 ∷ []) (started s b)) same
    (line_started (before ++ 10 ∷ []) (13 ∷ 10 ∷ []) f.text s other s.two o.lines o.head o.end o.told f.line refl o.form o.is_end o.tell f.is f.tells (inr refl)
    (ap (λ x. x ++ 10 ∷ []) (o.spelled ∙ ap (λ x. o.head ++ (o.end ++ x)) f.spelled)
    ∙ (append_assoc o.head (o.end ++ (f.text ++ 13 ∷ [])) (10 ∷ [])
    ∙ ap (λ x. o.head ++ x) (append_assoc o.end (f.text ++ 13 ∷ []) (10 ∷ []) ∙ ap (λ x. o.end ++ x) (append_assoc f.text (13 ∷ []) (10 ∷ []))))))

-- a line's CR
pub cr_so : (s next : State) (found : Option Bool) → ended_by_cr s found ≡ Ok next → (gives : Bool) × (found ≡ Some gives) × (in_phase s (behind_cr s.phase gives) ≡ next)
cr_so s next (Some gives) is = (gives, refl, ok_same (in_phase s (behind_cr s.phase gives)) next is)
cr_so s next None is = absurd (cc)

-- what a line tells is the same after its CR
pub under_end : (s : State) (t : Told) (line : Line) (gives : Bool) → Tells t line (told_of (started s gives)) → Tells t line (told_of (started (in_phase s (phase.End gives)) gives))
under_end s t line true tells = tells
under_end s t line false tells = tells

pub cr_bytes : (p : Phase) (before : List ℕ) (s : State) (gives : Bool) → s.phase ≡ p → (o : InLine before s) → ends_in p s.payload.bytes ≡ Some gives → gives ≡ true
    → s.payload.bytes ≡ payload_bytes (payload_in s.payload.bytes)
cr_bytes p before s gives at o is packet_is =
    front_bytes p s o.told o.front (subst (λ (q : Phase). Front q s o.told o.front) at o.line) (is ∙ ap (λ (b : Bool). Some b) packet_is)

pub cr_line : (p : Phase) (before : List ℕ) (s : State) (gives : Bool) → s.phase ≡ p → (o : InLine before s) → ends_in p s.payload.bytes ≡ Some gives
    → InLine (before ++ 13 ∷ []) (in_phase s (phase.End gives))
cr_line p before s gives at o is =
    let l = front_line p s o.told o.front gives (subst (λ (q : Phase). Front q s o.told o.front) at o.line) is in
    record {
      lines = o.lines;
      head = o.head;
      end = o.end;
      front = o.front ++ 13 ∷ [];
      told = o.told;
      form = o.form;
      is_end = o.is_end;
      tell = o.tell;
      spelled = ap (λ x. x ++ 13 ∷ []) o.spelled ∙ (append_assoc o.head (o.end ++ o.front) (13 ∷ []) ∙ ap (λ x. o.head ++ x) (append_assoc o.end o.front (13 ∷ [])));
      line = record { bytes = λ packet_is. cr_bytes p before s gives at o is packet_is; line = l.line; text = o.front; is = l.is; tells = under_end s o.told l.line gives l.tells; spelled = refl };
    }

pub cr_origin : (p : Phase) (before : List ℕ) (s : State) (gives : Bool) → s.phase ≡ p → OriginIn p before s → ends_in p s.payload.bytes ≡ Some gives
    → Origin (before ++ 13 ∷ []) (in_phase s (behind_cr p gives))
cr_origin (phase.First number) before s gives at o is = absurd (none_is_some gives is)
cr_origin phase.FirstSpaces before s gives at o is =
    record { spaces = o.spaces; are = o.are; spelled = behind_text before (format_text (version_of s.two)) o.spaces [] 13 o.spelled; fresh = o.fresh }
cr_origin phase.FirstEnd before s gives at o is = absurd (none_is_some gives is)
cr_origin phase.Start before s gives at o is = cr_line phase.Start before s gives at o is
cr_origin phase.Blank before s gives at o is = cr_line phase.Blank before s gives at o is
cr_origin phase.Slash before s gives at o is = absurd (none_is_some gives is)
cr_origin phase.Comment before s gives at o is = cr_line phase.Comment before s gives at o is
cr_origin (phase.Name k) before s gives at o is = absurd (none_is_some gives is)
cr_origin phase.Value before s gives at o is = cr_line phase.Value before s gives at o is
cr_origin (phase.Rate text) before s gives at o is = cr_line (phase.Rate text) before s gives at o is
cr_origin phase.RateSpaces before s gives at o is = cr_line phase.RateSpaces before s gives at o is
cr_origin phase.Time before s gives at o is = absurd (none_is_some gives is)
cr_origin phase.Timed before s gives at o is = absurd (none_is_some gives is)
cr_origin phase.Dot before s gives at o is = absurd (none_is_some gives is)
cr_origin phase.Field before s gives at o is = absurd (none_is_some gives is)
cr_origin (phase.Digits many) before s gives at o is = absurd (none_is_some gives is)
cr_origin phase.Payload before s gives at o is = cr_line phase.Payload before s gives at o is
cr_origin phase.Behind before s gives at o is = cr_line phase.Behind before s gives at o is
cr_origin (phase.End other) before s gives at o is = absurd (none_is_some gives is)

-- a byte of the first line's text
pub first_so : (s next : State) (number byte : ℕ) (second : Bool) → ((number == 28) && (byte == 50)) ≡ second
    → cond second (Ok (record s { phase = phase.First 29; two = true })) (taken s (byte == slice_index (format_text one) number) (in_phase s (behind_first number))) ≡ Ok next
    → ((number ≡ 28) × (byte ≡ 50) × (record s { phase = phase.First 29; two = true } ≡ next))
    ⊎ ((byte ≡ slice_index (format_text one) number) × (in_phase s (behind_first number) ≡ next))
first_so s next number byte true second is =
    let (place, digit) = both (number == 28) (byte == 50) second in
    inl (eqb-true number 28 place, eqb-true byte 50 digit, ok_same (record s { phase = phase.First 29; two = true }) next is)
first_so s next number byte false second is =
    let (test, same) = taken_so s (byte == slice_index (format_text one) number) (in_phase s (behind_first number)) next is in
    inr (eqb-true byte (slice_index (format_text one) number) test, same)

pub later_byte : (number : ℕ) → 29 ≤ number → number < 31 → get_or (format_text one) number 0 ≡ get_or (format_text two) number 0
later_byte number late early = elim (cases_Bool (number == 29)) [
  | inl e ↦ subst (λ (n : ℕ). get_or (format_text one) n 0 ≡ get_or (format_text two) n 0) (sym (eqb-true number 29 e)) refl
  | inr e ↦
      let other : number ≡ 29 → ⊥ = eqb-false number 29 e in
      let last : 30 ≡ number = omega (arith, other) in
      subst (λ (n : ℕ). get_or (format_text one) n 0 ≡ get_or (format_text two) n 0) last refl
]

pub true_false : true ≡ false → ⊥
true_false is = cc

pub late_number : (number : ℕ) → (number ≤ 28 → ⊥) → 29 ≤ number
late_number number late = omega (arith, late)

pub first_byte : (second : Bool) (number : ℕ) → (number ≤ 28 → second ≡ false) → number < 31 → get_or (format_text one) number 0 ≡ get_or (format_text (version_of second)) number 0
first_byte false number undecided early = refl
first_byte true number undecided early =
    let late : 29 ≤ number = late_number number (λ few. true_false (undecided few)) in
    later_byte number late early

pub first_long : (version : Version) → length (format_text version) ≡ 31
first_long one = refl
first_long two = refl

pub first_more : (before : List ℕ) (s : State) (number byte : ℕ) → InFirst number before s → byte ≡ slice_index (format_text one) number
    → before ++ byte ∷ [] ≡ take (number + 1) (format_text (version_of s.two))
first_more before s number byte o is =
    let text = format_text (version_of s.two) in
    let early = o.early in
    let within : number < length text = omega (arith, first_long (version_of s.two)) in
    ap (λ x. x ++ byte ∷ []) o.spelled
    ∙ (ap (λ b. take number text ++ b ∷ []) (is ∙ first_byte s.two number o.undecided o.early) ∙ sym (take_more text number 0 within))

pub whole_first : (second : Bool) → take 31 (format_text (version_of second)) ≡ format_text (version_of second) ++ ([] ++ [])
whole_first false = refl
whole_first true = refl

pub first_next_by : (before : List ℕ) (s : State) (number byte : ℕ) (last : Bool) → InFirst number before s → byte ≡ slice_index (format_text one) number → (number == 30) ≡ last
    → Origin (before ++ byte ∷ []) (in_phase s (cond last phase.FirstSpaces (phase.First (number + 1))))
first_next_by before s number byte true o is last =
    let whole : 31 ≡ number + 1 = ap (λ n. n + 1) (sym (eqb-true number 30 last)) in
    record {
      spaces = [];
      are = tt;
      spelled = first_more before s number byte o is ∙ (ap (λ n. take n (format_text (version_of s.two))) (sym whole) ∙ whole_first s.two);
      fresh = o.fresh;
    }
first_next_by before s number byte false o is last =
    let other : number ≡ 30 → ⊥ = eqb-false number 30 last in
    let early = o.early in
    record {
      early = omega (arith, other);
      spelled = first_more before s number byte o is;
      undecided = λ few. o.undecided (omega (arith, few));
      fresh = o.fresh;
    }

pub version_two : (before : List ℕ) (s : State) → InFirst 28 before s → Origin (before ++ 50 ∷ []) (record s { phase = phase.First 29; two = true })
version_two before s o =
    let start : before ≡ take 28 (format_text one) = o.spelled ∙ ap (λ (b : Bool). take 28 (format_text (version_of b))) (o.undecided (omega arith)) in
    record { early = omega arith; spelled = ap (λ x. x ++ 50 ∷ []) start; undecided = λ few. absurd (omega (arith, few)); fresh = o.fresh }

pub first_origin : (before : List ℕ) (s next : State) (number byte : ℕ) → InFirst number before s → first_read s number byte ≡ Ok next → Origin (before ++ byte ∷ []) next
first_origin before s next number byte o is = elim (first_so s next number byte ((number == 28) && (byte == 50)) refl is) [
  | inl (place, digit, same) ↦
      subst (λ (x : State). Origin (before ++ byte ∷ []) x) same
      (subst (λ (b : ℕ). Origin (before ++ b ∷ []) (record s { phase = phase.First 29; two = true })) (sym digit)
      (version_two before s (subst (λ (n : ℕ). InFirst n before s) place o)))
  | inr (fits, same) ↦ subst (λ (x : State). Origin (before ++ byte ∷ []) x) same (first_next_by before s number byte (number == 30) o fits refl)
]

-- a byte within a line
pub line_origin : (p : Phase) (before : List ℕ) (s next : State) (byte : ℕ) → s.phase ≡ p → InLine before s → (byte == 10) ≡ false → (byte == 13) ≡ false
    → within s p byte ≡ Ok next → Origin (before ++ byte ∷ []) next
line_origin p before s next byte at o lf cr is =
    let n = within_next p s next o.told o.front byte at (subst (λ (q : Phase). Front q s o.told o.front) at o.line) lf cr is in
    in_line_origin next.phase (before ++ byte ∷ []) next refl
    (record {
      lines = o.lines;
      head = o.head;
      end = o.end;
      front = o.front ++ byte ∷ [];
      told = o.told;
      form = subst (λ (b : Bool). IsMccForm (version_of b) o.lines o.head) (sym n.version) o.form;
      is_end = o.is_end;
      tell = o.tell;
      spelled = ap (λ x. x ++ byte ∷ []) o.spelled ∙ (append_assoc o.head (o.end ++ o.front) (byte ∷ []) ∙ ap (λ x. o.head ++ x) (append_assoc o.end o.front (byte ∷ [])));
      line = n.line;
    })

pub spaces_origin : (before : List ℕ) (s next : State) (byte : ℕ) → BehindFirst [] before s → taken s (byte == 32) (in_phase s phase.FirstSpaces) ≡ Ok next → Origin (before ++ byte ∷ []) next
spaces_origin before s next byte o is =
    let (test, same) = taken_so s (byte == 32) (in_phase s phase.FirstSpaces) next is in
    let text = format_text (version_of s.two) in
    subst (λ (x : State). Origin (before ++ byte ∷ []) x) same
    (record {
      spaces = o.spaces ++ byte ∷ [];
      are = spaces_more o.spaces byte o.are (eqb-true byte 32 test);
      spelled = behind_text before text o.spaces [] byte o.spelled ∙ ap (λ x. text ++ x) (sym (append-nil (o.spaces ++ byte ∷ [])));
      fresh = o.fresh;
    })

pub no_way : (s next : State) → ◌≡◌ {A = Result State Offence} (taken s false s) (Ok next) → ⊥
no_way s next is = cc

pub within_origin : (p : Phase) (before : List ℕ) (s next : State) (byte : ℕ) → s.phase ≡ p → OriginIn p before s → (byte == 10) ≡ false → (byte == 13) ≡ false
    → within s p byte ≡ Ok next → Origin (before ++ byte ∷ []) next
within_origin (phase.First number) before s next byte at o lf cr is = first_origin before s next number byte o is
within_origin phase.FirstSpaces before s next byte at o lf cr is = spaces_origin before s next byte o is
within_origin phase.FirstEnd before s next byte at o lf cr is = absurd (no_way s next is)
within_origin phase.Start before s next byte at o lf cr is = line_origin phase.Start before s next byte at o lf cr is
within_origin phase.Blank before s next byte at o lf cr is = line_origin phase.Blank before s next byte at o lf cr is
within_origin phase.Slash before s next byte at o lf cr is = line_origin phase.Slash before s next byte at o lf cr is
within_origin phase.Comment before s next byte at o lf cr is = line_origin phase.Comment before s next byte at o lf cr is
within_origin (phase.Name k) before s next byte at o lf cr is = line_origin (phase.Name k) before s next byte at o lf cr is
within_origin phase.Value before s next byte at o lf cr is = line_origin phase.Value before s next byte at o lf cr is
within_origin (phase.Rate text) before s next byte at o lf cr is = line_origin (phase.Rate text) before s next byte at o lf cr is
within_origin phase.RateSpaces before s next byte at o lf cr is = line_origin phase.RateSpaces before s next byte at o lf cr is
within_origin phase.Time before s next byte at o lf cr is = line_origin phase.Time before s next byte at o lf cr is
within_origin phase.Timed before s next byte at o lf cr is = line_origin phase.Timed before s next byte at o lf cr is
within_origin phase.Dot before s next byte at o lf cr is = line_origin phase.Dot before s next byte at o lf cr is
within_origin phase.Field before s next byte at o lf cr is = line_origin phase.Field before s next byte at o lf cr is
within_origin (phase.Digits many) before s next byte at o lf cr is = line_origin (phase.Digits many) before s next byte at o lf cr is
within_origin phase.Payload before s next byte at o lf cr is = line_origin phase.Payload before s next byte at o lf cr is
within_origin phase.Behind before s next byte at o lf cr is = line_origin phase.Behind before s next byte at o lf cr is
within_origin (phase.End gives) before s next byte at o lf cr is = line_origin (phase.End gives) before s next byte at o lf cr is

-- a byte more
pub step_by : (before : List ℕ) (s next : State) (byte : ℕ) (lf cr : Bool) → (byte == 10) ≡ lf → (byte == 13) ≡ cr → Origin before s
    → cond lf (ended_by_lf s (ends_at_lf s.phase (ends s))) (cond cr (ended_by_cr s (ends s)) (within s s.phase byte)) ≡ Ok next → Origin (before ++ byte ∷ []) next
step_by before s next byte true cr lf_is cr_is o is =
    let (gives, found, same) = lf_so s next (ends_at_lf s.phase (ends s)) is in
    subst (λ (x : State). Origin (before ++ byte ∷ []) x) same
    (subst (λ (b : ℕ). InLine (before ++ b ∷ []) (started s gives)) (sym (eqb-true byte 10 lf_is)) (lf_origin s.phase before s gives refl o found))
step_by before s next byte false true lf_is cr_is o is =
    let (gives, found, same) = cr_so s next (ends s) is in
    subst (λ (x : State). Origin (before ++ byte ∷ []) x) same
    (subst (λ (b : ℕ). Origin (before ++ b ∷ []) (in_phase s (behind_cr s.phase gives))) (sym (eqb-true byte 13 cr_is)) (cr_origin s.phase before s gives refl o found))
step_by before s next byte false false lf_is cr_is o is = within_origin s.phase before s next byte refl o lf_is cr_is is

pub origin_step : (before : List ℕ) (s next : State) (byte : ℕ) → Origin before s → take_byte s byte ≡ Ok next → Origin (before ++ byte ∷ []) next
origin_step before s next byte o is = step_by before s next byte (byte == 10) (byte == 13) refl refl o is

pub origin_run : (bytes before : List ℕ) (s to : State) → Origin before s → run s bytes ≡ Ok to → Origin (before ++ bytes) to
origin_run [] before s to o is =
    subst (λ (b : List ℕ). Origin b to) (sym (append-nil before)) (subst (λ (x : State). Origin before x) (ok_same s to is) o)
origin_run (byte ∷ bytes) before s to o is =
    let w = went (take_byte s byte) (λ n. run n bytes) to is in
    subst (λ (b : List ℕ). Origin b to) (append_assoc before (byte ∷ []) bytes)
    (origin_run bytes (before ++ byte ∷ []) w.next to (origin_step before s w.next byte o w.stepped) w.more)

pub origin : (bytes : List ℕ) (to : State) → run at_first bytes ≡ Ok to → Origin bytes to
origin bytes to is = origin_run bytes [] at_first to (record { early = omega arith; spelled = refl; undecided = λ few. refl; fresh = refl }) is

-- what is read is a file
pub file_of_line : (p : Phase) (before : List ℕ) (s : State) (gives : Bool) → s.phase ≡ p → InLine before s → ends_in p s.payload.bytes ≡ Some gives
    → IsMccFile (placed_with s gives) before
file_of_line p before s gives at o is =
    let l = front_line p s o.told o.front gives (subst (λ (q : Phase). Front q s o.told o.front) at o.line) is in
    let form = form_more (version_of s.two) o.lines o.head o.end o.front l.line o.form o.is_end l.is in
    record {
      version = version_of s.two;
      lines = o.lines ++ l.line ∷ [];
      form = subst (λ (b : List ℕ). IsMccForm (version_of s.two) (o.lines ++ l.line ∷ []) b) (sym o.spelled) form;
      say = told_say (o.lines ++ l.line ∷ []) (told_of (started s gives)) (tell_more o.lines told_nothing o.told l.line (told_of (started s gives)) o.tell l.tells);
    }

pub first_is_file : (before : List ℕ) (s : State) → BehindFirst [] before s → IsMccFile s.placed before
first_is_file before s o = record {
  version = version_of s.two;
  lines = [];
  form = record {
    spaces = o.spaces;
    rest = [];
    are_spaces = o.are;
    are_lines = refl;
    spelled = o.spelled;
  };
  say = ap (λ x. x.placed) o.fresh;
}

pub ended_file_by : (p : Phase) (before : List ℕ) (s : State) (gives : Bool) → s.phase ≡ p → Where p before s → ends_in p s.payload.bytes ≡ Some gives → IsMccFile (placed_with s gives) before
ended_file_by p before s gives at (in_first number first o) is = absurd (none_is_some gives (subst (λ (q : Phase). ends_in q s.payload.bytes ≡ Some gives) first is))
ended_file_by p before s gives at (behind_first_text first o) is =
    let same : false ≡ gives = some_same false gives (subst (λ (q : Phase). ends_in q s.payload.bytes ≡ Some gives) first is) in
    subst (λ (b : Bool). IsMccFile (placed_with s b) before) same (first_is_file before s o)
ended_file_by p before s gives at (behind_first_cr first o) is = absurd (none_is_some gives (subst (λ (q : Phase). ends_in q s.payload.bytes ≡ Some gives) first is))
ended_file_by p before s gives at (in_line o) is = file_of_line p before s gives at o is

pub ended_file : (before : List ℕ) (s : State) (gives : Bool) → Origin before s → ends s ≡ Some gives → IsMccFile (placed_with s gives) before
ended_file before s gives o is = ended_file_by s.phase before s gives refl (where_is s.phase before s o) is

pub read_is_file : (placed : TimedPackets) (bytes : List ℕ) → read_file bytes ≡ Ok placed → IsMccFile placed bytes
read_is_file placed bytes is =
    let r = read_as 0 at_first bytes placed is in
    subst (λ (x : TimedPackets). IsMccFile x bytes) (sym r.all) (ended_file bytes r.to r.packet (origin bytes r.to r.is) r.may)

-- the bytes of the packet whose line ends
pub lf_bytes : (p : Phase) (s : State) (t : Told) (front : List ℕ) → Front p s t front → ends_at_lf p (ends_in p s.payload.bytes) ≡ Some true
    → s.payload.bytes ≡ payload_bytes (payload_in s.payload.bytes)
lf_bytes (phase.First at) s t front f is = absurd f
lf_bytes phase.FirstSpaces s t front f is = absurd f
lf_bytes phase.FirstEnd s t front f is = absurd f
lf_bytes phase.Start s t front f is = front_bytes phase.Start s t front f is
lf_bytes phase.Blank s t front f is = front_bytes phase.Blank s t front f is
lf_bytes phase.Slash s t front f is = front_bytes phase.Slash s t front f is
lf_bytes phase.Comment s t front f is = front_bytes phase.Comment s t front f is
lf_bytes (phase.Name k) s t front f is = front_bytes (phase.Name k) s t front f is
lf_bytes phase.Value s t front f is = front_bytes phase.Value s t front f is
lf_bytes (phase.Rate text) s t front f is = front_bytes (phase.Rate text) s t front f is
lf_bytes phase.RateSpaces s t front f is = front_bytes phase.RateSpaces s t front f is
lf_bytes phase.Time s t front f is = front_bytes phase.Time s t front f is
lf_bytes phase.Timed s t front f is = front_bytes phase.Timed s t front f is
lf_bytes phase.Dot s t front f is = front_bytes phase.Dot s t front f is
lf_bytes phase.Field s t front f is = front_bytes phase.Field s t front f is
lf_bytes (phase.Digits many) s t front f is = front_bytes (phase.Digits many) s t front f is
lf_bytes phase.Payload s t front f is = front_bytes phase.Payload s t front f is
lf_bytes phase.Behind s t front f is = front_bytes phase.Behind s t front f is
lf_bytes (phase.End other) s t front f is = f.bytes (some_same other true is)

pub whole_bytes_by : (p : Phase) (before : List ℕ) (s : State) → s.phase ≡ p → Where p before s → ends_at_lf p (ends_in p s.payload.bytes) ≡ Some true
    → s.payload.bytes ≡ payload_bytes (payload_in s.payload.bytes)
whole_bytes_by p before s at (in_first number first o) is =
    absurd (none_is_some true (subst (λ (q : Phase). ends_at_lf q (ends_in q s.payload.bytes) ≡ Some true) first is))
whole_bytes_by p before s at (behind_first_text first o) is =
    absurd (no_packet_line (subst (λ (q : Phase). ends_at_lf q (ends_in q s.payload.bytes) ≡ Some true) first is))
whole_bytes_by p before s at (behind_first_cr first o) is =
    absurd (no_packet_line (subst (λ (q : Phase). ends_at_lf q (ends_in q s.payload.bytes) ≡ Some true) first is))
whole_bytes_by p before s at (in_line o) is = lf_bytes p s o.told o.front (subst (λ (q : Phase). Front q s o.told o.front) at o.line) is

pub whole_bytes : (before : List ℕ) (s : State) → Origin before s → ends_at_lf s.phase (ends s) ≡ Some true → s.payload.bytes ≡ payload_bytes (payload_in s.payload.bytes)
whole_bytes before s o is = whole_bytes_by s.phase before s refl (where_is s.phase before s o) is
