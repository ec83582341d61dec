-- MCC files are read as their packets.
use Rattle.std.proofs.Common.{◌≡◌, ℕ, inl, inr, Bool, true, false, List, [], ◌∷◌, ◌++◌, append_assoc, Some, Ok, refl, ap, sym, ◌∙◌, subst}
use Rattle.scc_files.specs.Lines.{AreSpaces, IsLineEnd}
use Rattle.mcc_files.specs.Lines.{AreMccLines, IsMccForm, IsMccLine, Line, Version, attribute, format_text, nothing, one, packet, rate, two}
use Rattle.mcc_files.specs.MccFiles.{IsMccFile, TimedPackets}
use Rattle.mcc_files.specs.Reading.{State, at_first, behind_cr, ended_by_cr, ended_by_lf, ends, ends_at_lf, ends_in, in_phase, placed_with, read_file, run, started, take_byte}
use Rattle.mcc_files.specs.declared.phase.Phase.{Phase}
use Rattle.mcc_files.specs.declared.phase.Phase.TheVariants as phase
use Rattle.mcc_files.proofs.LineReads.{LineReads, attribute_reads, blank_reads, comment_reads, rate_reads, step_run}
use Rattle.mcc_files.proofs.Origins.{told_of, version_of}
use Rattle.mcc_files.proofs.PacketReads.{packet_reads}
use Rattle.mcc_files.proofs.RunLemmas.{as_read, run_both, run_one}
use Rattle.mcc_files.proofs.ToldLemmas.{TellAll, Tells, Told, none_is_some, say_told, some_same, told_nothing}

-- a line
pub line_reads : (second : Bool) (line : Line) (s : State) (text : List ℕ) (u : Told) → s.two ≡ second → IsMccLine (version_of second) line text → Tells (told_of s) line u
    → LineReads (in_phase s phase.Start) text u
line_reads second nothing s text u two_is (inl blanks) tells = blank_reads s text u blanks tells
line_reads second nothing s text u two_is (inr comment) tells = comment_reads s text u comment tells
line_reads second attribute s text u two_is is (none, told) = attribute_reads s text u is none told
line_reads second (rate count) s text u two_is is (last, none, told) = rate_reads s count text u is last none told
line_reads second (packet time payload) s text u two_is is (count, frame, counted, framed, told) =
    packet_reads second s time payload text count frame u two_is is counted framed told

-- its end
pub ends_lf : (p : Phase) (bytes : List ℕ) (gives : Bool) → ends_in p bytes ≡ Some gives → ends_at_lf p (ends_in p bytes) ≡ Some gives
ends_lf (phase.First at) bytes gives is = is
ends_lf phase.FirstSpaces bytes gives is = is
ends_lf phase.FirstEnd bytes gives is = absurd (none_is_some gives is)
ends_lf phase.Start bytes gives is = is
ends_lf phase.Blank bytes gives is = is
ends_lf phase.Slash bytes gives is = is
ends_lf phase.Comment bytes gives is = is
ends_lf (phase.Name k) bytes gives is = is
ends_lf phase.Value bytes gives is = is
ends_lf (phase.Rate text) bytes gives is = is
ends_lf phase.RateSpaces bytes gives is = is
ends_lf phase.Time bytes gives is = is
ends_lf phase.Timed bytes gives is = is
ends_lf phase.Dot bytes gives is = is
ends_lf phase.Field bytes gives is = is
ends_lf (phase.Digits many) bytes gives is = is
ends_lf phase.Payload bytes gives is = is
ends_lf phase.Behind bytes gives is = is
ends_lf (phase.End other) bytes gives is = absurd (none_is_some gives is)

pub lf_step : (s : State) (gives : Bool) → ends s ≡ Some gives → take_byte s 10 ≡ Ok (started s gives)
lf_step s gives is = ap (λ m. ended_by_lf s m) (ends_lf s.phase s.payload.bytes gives is)

pub cr_step : (s : State) (gives : Bool) → ends s ≡ Some gives → take_byte s 13 ≡ Ok (in_phase s (behind_cr s.phase gives))
cr_step s gives is = ap (λ m. ended_by_cr s m) is

pub started_same : (s : State) (to : Phase) (gives : Bool) → started (in_phase s to) gives ≡ started s gives
started_same s to true = refl
started_same s to false = refl

-- after a CR
pub behind_lf : (p : Phase) (s : State) (gives : Bool) → ends_in p s.payload.bytes ≡ Some gives → take_byte (in_phase s (behind_cr p gives)) 10 ≡ Ok (started s gives)
behind_lf (phase.First at) s gives is = absurd (none_is_some gives is)
behind_lf phase.FirstSpaces s gives is =
    subst (λ (b : Bool). take_byte (in_phase s phase.FirstEnd) 10 ≡ Ok (started s b)) (some_same false gives is) refl
behind_lf phase.FirstEnd s gives is = absurd (none_is_some gives is)
behind_lf phase.Start s gives is = ap (λ x. Ok x) (started_same s (phase.End gives) gives)
behind_lf phase.Blank s gives is = ap (λ x. Ok x) (started_same s (phase.End gives) gives)
behind_lf phase.Slash s gives is = absurd (none_is_some gives is)
behind_lf phase.Comment s gives is = ap (λ x. Ok x) (started_same s (phase.End gives) gives)
behind_lf (phase.Name k) s gives is = absurd (none_is_some gives is)
behind_lf phase.Value s gives is = ap (λ x. Ok x) (started_same s (phase.End gives) gives)
behind_lf (phase.Rate text) s gives is = ap (λ x. Ok x) (started_same s (phase.End gives) gives)
behind_lf phase.RateSpaces s gives is = ap (λ x. Ok x) (started_same s (phase.End gives) gives)
behind_lf phase.Time s gives is = absurd (none_is_some gives is)
behind_lf phase.Timed s gives is = absurd (none_is_some gives is)
behind_lf phase.Dot s gives is = absurd (none_is_some gives is)
behind_lf phase.Field s gives is = absurd (none_is_some gives is)
behind_lf (phase.Digits many) s gives is = absurd (none_is_some gives is)
behind_lf phase.Payload s gives is = ap (λ x. Ok x) (started_same s (phase.End gives) gives)
behind_lf phase.Behind s gives is = ap (λ x. Ok x) (started_same s (phase.End gives) gives)
behind_lf (phase.End other) s gives is = absurd (none_is_some gives is)

pub end_read : (s : State) (gives : Bool) (end : List ℕ) → ends s ≡ Some gives → IsLineEnd end → run s end ≡ Ok (started s gives)
end_read s gives end may (inl lf) = subst (λ (x : List ℕ). run s x ≡ Ok (started s gives)) (sym lf) (run_one s 10 (started s gives) (lf_step s gives may))
end_read s gives end may (inr cr) =
    subst (λ (x : List ℕ). run s x ≡ Ok (started s gives)) (sym cr)
    (step_run s (in_phase s (behind_cr s.phase gives)) (started s gives) 13 (10 ∷ []) (cr_step s gives may)
    (run_one (in_phase s (behind_cr s.phase gives)) 10 (started s gives) (behind_lf s.phase s gives may)))

-- lines
pub record LinesRead (s : State) (bytes : List ℕ) (u : Told) : Type 0 where
  pub to : State
  pub gives : Bool
  pub is : run s bytes ≡ Ok to
  pub may : ends to ≡ Some gives
  pub told : told_of (started to gives) ≡ u
  pub version : to.two ≡ s.two

abbrev pub with_placed : State → TimedPackets → State
with_placed s placed = record s { placed = placed }

pub lines_read : (second : Bool) (lines : List Line) (s : State) (gives : Bool) (rest : List ℕ) (t u : Told) → s.two ≡ second → ends s ≡ Some gives → told_of (started s gives) ≡ t
    → AreMccLines (version_of second) lines rest → TellAll t lines u → LinesRead s rest u
lines_read second [] s gives rest t u two_is may told are same = record {
  to = s;
  gives = gives;
  is = subst (λ (x : List ℕ). run s x ≡ Ok s) (sym are) refl;
  may = may;
  told = told ∙ same;
  version = refl;
}
lines_read second (line ∷ lines) s gives rest t u two_is may told (end, text, rest', is_end, is, are, spelled) (next, tells, more) =
    let s' = with_placed s (placed_with s gives) in
    let l = line_reads second line s' text next two_is is (subst (λ (x : Told). Tells x line next) (sym told) tells) in
    let r = lines_read second lines l.to l.gives rest' next u (l.version ∙ two_is) l.may l.told are more in
    let first = run_both s end text (started s gives) l.to (end_read s gives end may is_end) l.is in
    let all = run_both s (end ++ text) rest' l.to r.to first r.is in
    record {
      to = r.to;
      gives = r.gives;
      is = subst (λ (x : List ℕ). run s x ≡ Ok r.to) (append_assoc end text rest' ∙ sym spelled) all;
      may = r.may;
      told = r.told;
      version = r.version ∙ l.version;
    }

-- the first line
abbrev pub behind_text : Bool → State
behind_text second = record at_first { phase = phase.FirstSpaces; two = second }

pub first_run : (second : Bool) → run at_first (format_text (version_of second)) ≡ Ok (behind_text second)
first_run false = refl
first_run true = refl

pub spaces_run : (s : State) (xs : List ℕ) → AreSpaces xs → run (in_phase s phase.FirstSpaces) xs ≡ Ok (in_phase s phase.FirstSpaces)
spaces_run s [] are = refl
spaces_run s (x ∷ xs) are =
    step_run (in_phase s phase.FirstSpaces) (in_phase s phase.FirstSpaces) (in_phase s phase.FirstSpaces) x xs
    (subst (λ (b : ℕ). take_byte (in_phase s phase.FirstSpaces) b ≡ Ok (in_phase s phase.FirstSpaces)) (sym are.0) refl) (spaces_run s xs are.1)

-- a file in form
pub record FormRead (second : Bool) (bytes : List ℕ) (u : Told) : Type 0 where
  pub to : State
  pub gives : Bool
  pub is : run at_first bytes ≡ Ok to
  pub may : ends to ≡ Some gives
  pub told : told_of (started to gives) ≡ u
  pub version : to.two ≡ second

pub form_read : (second : Bool) (lines : List Line) (bytes : List ℕ) (u : Told) → IsMccForm (version_of second) lines bytes → TellAll told_nothing lines u → FormRead second bytes u
form_read second lines bytes u form tell =
    let first = run_both at_first (format_text (version_of second)) form.spaces (behind_text second) (behind_text second) (first_run second) (spaces_run (behind_text second) form.spaces form.are_spaces) in
    let r = lines_read second lines (behind_text second) false form.rest told_nothing u refl refl refl form.are_lines tell in
    let all = run_both at_first (format_text (version_of second) ++ form.spaces) form.rest (behind_text second) r.to first r.is in
    record {
      to = r.to;
      gives = r.gives;
      is = subst (λ (x : List ℕ). run at_first x ≡ Ok r.to) (append_assoc (format_text (version_of second)) form.spaces form.rest ∙ sym form.spelled) all;
      may = r.may;
      told = r.told;
      version = r.version;
    }

-- a file
pub record FileRead (placed : TimedPackets) (bytes : List ℕ) : Type 0 where
  pub to : State
  pub gives : Bool
  pub is : run at_first bytes ≡ Ok to
  pub may : ends to ≡ Some gives
  pub all : placed_with to gives ≡ placed

pub file_run_by : (version : Version) (lines : List Line) (placed : TimedPackets) (bytes : List ℕ) (u : Told) → IsMccForm version lines bytes → TellAll told_nothing lines u → u.placed ≡ placed → FileRead placed bytes
file_run_by one lines placed bytes u form tell all =
    let r = form_read false lines bytes u form tell in
    record { to = r.to; gives = r.gives; is = r.is; may = r.may; all = ap (λ t. t.placed) r.told ∙ all }
file_run_by two lines placed bytes u form tell all =
    let r = form_read true lines bytes u form tell in
    record { to = r.to; gives = r.gives; is = r.is; may = r.may; all = ap (λ t. t.placed) r.told ∙ all }

pub file_run : (placed : TimedPackets) (bytes : List ℕ) → IsMccFile placed bytes → FileRead placed bytes
file_run placed bytes file =
    let t = say_told file.lines placed file.say in
    file_run_by file.version file.lines placed bytes t.to file.form t.tell t.all

pub file_is_read : (placed : TimedPackets) (bytes : List ℕ) → IsMccFile placed bytes → read_file bytes ≡ Ok placed
file_is_read placed bytes file =
    let r = file_run placed bytes file in
    as_read 0 at_first r.to bytes r.gives r.is r.may ∙ ap (λ p. Ok p) r.all
