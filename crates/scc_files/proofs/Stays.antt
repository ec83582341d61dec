-- A refusal of a byte stays, whatever follows.
use Rattle.std.proofs.Common.{◌≡◌, ℕ, ◌+◌, ◌<◌, Bool, true, false, cond, refl, sym, ◌∙◌, ap, arith, List, [], ◌∷◌, ◌++◌, length, Option, Some, None, Result, Ok, Err}
use Rattle.cc_base.specs.declared.refusal.Refusal.{Refusal}
use Rattle.line21_codes.specs.declared.pairs.Pair.{Pair}
use Rattle.scc_files.specs.Phases.{may_end, why_in}
use Rattle.scc_files.specs.Reading.{Stepped, behind, read_file, read_from, step, with_pair}
use Rattle.scc_files.specs.SccFiles.{IsSccFile}
use Rattle.scc_files.specs.declared.reader.Offence.{Offence}
use Rattle.scc_files.specs.declared.reader.Reader.{Reader}
use Rattle.scc_files.proofs.Complete.{file_read}
use Rattle.scc_files.proofs.Sound.{err_ok, failed}

pub err_is : {A B : Type 0} {x y : B} → failed {A = A} {B = B} x ≡ failed {A = A} {B = B} y → x ≡ y
err_is is = cc

-- a refusal at the end of the bytes
pub at_end : (may : Bool) (here refusal : Refusal) → cond {A = Result (List (ℕ × Pair)) Refusal} may (Ok []) (Err here) ≡ Err refusal → here ≡ refusal
at_end true here refusal is = absurd (err_ok (sym is))
at_end false here refusal is = err_is is

pub refused_behind : (given : Option (ℕ × Pair)) (rest : Result (List (ℕ × Pair)) Refusal) (refusal : Refusal) → with_pair given rest ≡ Err refusal → rest ≡ Err refusal
refused_behind None rest refusal is = is
refused_behind (Some placed) (Ok pairs) refusal is = absurd (err_ok (sym is))
refused_behind (Some placed) (Err other) refusal is = is

pub refused_ahead : (given : Option (ℕ × Pair)) (rest : Result (List (ℕ × Pair)) Refusal) (refusal : Refusal) → rest ≡ Err refusal → with_pair given rest ≡ Err refusal
refused_ahead None rest refusal is = is
refused_ahead (Some placed) rest refusal is = ap (λ x. with_pair (Some placed) x) is

pub stays : (bytes more : List ℕ) (r : Reader) (place : ℕ) (refusal : Refusal) → read_from true place r bytes ≡ Err refusal → refusal.place < place + length bytes
    → read_from true place r (bytes ++ more) ≡ Err refusal
stays [] more r place refusal is early =
    let here : place ≡ refusal.place = ap (λ x. x.place) (at_end (may_end r.phase) (record { place = place; why = why_in r.phase }) refusal is) in
    absurd (omega (arith, here))
stays (byte ∷ bytes) more r place refusal is early =
    let cases : (x : Result Stepped Offence) → step true r byte ≡ x → behind place x (λ s. read_from true (place + 1) s bytes) ≡ Err refusal
    → behind place x (λ s. read_from true (place + 1) s (bytes ++ more)) ≡ Err refusal =
    elim [
      | Ok stepped ↦ λ e h.
          refused_ahead stepped.1 _ refusal
          (stays bytes more stepped.0 (place + 1) refusal (refused_behind stepped.1 _ refusal h) (omega arith))
      | Err offence ↦ λ e h. h
    ] in
    cases (step true r byte) refl is

-- and refused bytes are none
pub none_is : (opening : Option ℕ) (bytes : List ℕ) (refusal : Refusal) (pairs : List (ℕ × Pair)) → read_file opening bytes ≡ Err refusal → IsSccFile opening pairs bytes → ⊥
none_is opening bytes refusal pairs is file = err_ok (sym is ∙ file_read opening pairs bytes file)
