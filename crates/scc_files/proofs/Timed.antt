-- Pairs that are placed line by line, and files that are read.
use Rattle.std.proofs.Common.{◌≡◌, ℕ, ◌+◌, ◌-◌, ◌≤◌, Bool, true, false, cond, nat_lt, max, refl, sym, ◌∙◌, ap, subst, arith, List, [], ◌∷◌, ◌++◌, length, Option, Some, None, unwrap_or, Result, Ok, Err}
use Rattle.std.specs.Result.{result_ok}
use Rattle.std.proofs.lemmas.Grind.{common_steps}
use Rattle.cc_base.specs.declared.why.Why.{Why}
use Rattle.cc_base.specs.declared.why.Why.TheVariants as why
use Rattle.line21_codes.specs.declared.pairs.Pair.{Pair}
use Rattle.time_codes.specs.Frames.{frame_number, frame_of}
use Rattle.time_codes.specs.declared.time_code.TimeCode.{TimeCode}
use Rattle.scc_files.specs.Lines.{TimedLine}
use Rattle.scc_files.specs.Reading.{at_first_frame, line_at, pairs_on, read_file, timed}
use Rattle.scc_files.specs.SccFiles.{AreTimed, IsSccFile, one_a_frame, placed_from}
use Rattle.scc_files.specs.declared.reader.Offence.{Offence}
use Rattle.scc_files.specs.declared.reader.Position.{Position}
use Rattle.scc_files.proofs.Complete.{Placed, after_is, after_pairs, judged_time, number_is}
use Rattle.scc_files.proofs.Sound.{err_ok, form_sound, ok_is}

pub record IsTimed (p : Position) (t : TimeCode) (s : Position) : Type 0 where
  pub frame : ℕ
  pub is : frame_of t ≡ Ok frame
  pub low : p.last ≤ frame
  pub at : s ≡ line_at p frame

pub in_order : (p s : Position) (t : TimeCode) (frame : ℕ) (late : Bool) → nat_lt frame p.last ≡ late → frame_of t ≡ Ok frame
    → cond {A = Result Position Offence} late (Err (record { back = 10; why = why.Backwards })) (Ok (line_at p frame)) ≡ Ok s → IsTimed p t s
in_order p s t frame true late is judge = absurd (err_ok judge)
in_order p s t frame false late is judge = record { frame = frame; is = is; low = grind (arith, common_steps); at = sym (ok_is judge) }

pub timed_led : (p s : Position) (t : TimeCode) → judged_time true p t ≡ Ok s → IsTimed p t s
timed_led p s t judge =
    let cases : (r : Result ℕ Why) → frame_of t ≡ r → timed p (result_ok r) ≡ Ok s → IsTimed p t s =
    elim [
      | Ok frame ↦ λ e h. in_order p s t frame (nat_lt frame p.last) refl e h
      | Err reason ↦ λ e h. absurd (err_ok h)
    ] in
    cases (frame_of t) refl judge

-- pairs placed line by line stand as the lines' times say
pub placed_timed : (lines : List (Option TimedLine)) (p : Position) (out : List (ℕ × Pair)) → Placed true p lines out
    → AreTimed p.last lines × (out ≡ placed_from p.start p.next lines)
placed_timed [] p out is = (tt, is)
placed_timed (None ∷ lines) p out is = placed_timed lines p out is
placed_timed (Some line ∷ lines) p out (s, more, judge, placed, made) =
    let t = timed_led p s line.time judge in
    let q = line_at p t.frame in
    let number : frame_number line.time ≡ t.frame = number_is line.time t.frame t.is in
    let placed' : Placed true (pairs_on q (length (line.first ∷ line.more))) lines more =
    subst (λ (r : Position). Placed true r lines more) (ap (λ r. after_pairs r (line.first ∷ line.more)) t.at ∙ after_is (line.first ∷ line.more) q) placed in
    let (rest, is) = placed_timed lines (pairs_on q (length (line.first ∷ line.more))) more placed' in
    let count : q.next + length (line.first ∷ line.more) ≡ q.next + 1 + length line.more = omega arith in
    let made' : out ≡ one_a_frame q.next (line.first ∷ line.more) ++ more =
    made ∙ ap (λ (r : Position). one_a_frame r.next (line.first ∷ line.more) ++ more) t.at in
    let all : one_a_frame q.next (line.first ∷ line.more) ++ placed_from q.start (q.next + 1 + length line.more) lines ≡ placed_from p.start p.next (Some line ∷ lines) =
    sym (ap (λ n. one_a_frame (max (n - unwrap_or p.start n) p.next) (line.first ∷ line.more)
    ++ placed_from (Some (unwrap_or p.start n)) (max (n - unwrap_or p.start n) p.next + 1 + length line.more) lines) number) in (
      (t.frame, t.is, t.low, rest),
      made' ∙ (ap (λ z. one_a_frame q.next (line.first ∷ line.more) ++ z) is
          ∙ (ap (λ n. one_a_frame q.next (line.first ∷ line.more) ++ placed_from q.start n lines) count ∙ all)),
    )

-- what is read is an SCC file
pub file_sound : (opening : Option ℕ) (pairs : List (ℕ × Pair)) (bytes : List ℕ) → read_file opening bytes ≡ Ok pairs → IsSccFile opening pairs bytes
file_sound opening pairs bytes is =
    let read = form_sound opening true 0 bytes pairs is in
    let (timed, placed) = placed_timed read.lines (at_first_frame opening) pairs read.placed in
    record { lines = read.lines; form = read.form; timed = timed; placed = placed }
