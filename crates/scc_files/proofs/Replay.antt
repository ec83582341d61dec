-- Bytes that are taken, and what is read after them.
use Rattle.std.proofs.Common.{◌≡◌, ℕ, ◌+◌, ◌-◌, Bool, true, false, cond, refl, sym, ◌∙◌, ap, subst, arith, add-zero, List, [], ◌∷◌, ◌++◌, length, Option, Some, None, Result, Ok, Err}
use Rattle.std.specs.Option.{option_and_then}
use Rattle.cc_base.specs.declared.refusal.Refusal.{Refusal}
use Rattle.line21_codes.specs.declared.pairs.Pair.{Pair}
use Rattle.scc_files.specs.Phases.{may_end, phase_after, why_in}
use Rattle.scc_files.specs.Reading.{Stepped, behind, judged, pairs_on, read_from, reached, step, step_to, text_done, with_pair}
use Rattle.scc_files.specs.declared.phase.Phase.{Phase}
use Rattle.scc_files.specs.declared.phase.Phase.TheVariants as phase
use Rattle.scc_files.specs.declared.reader.Offence.{Offence}
use Rattle.scc_files.specs.declared.reader.Position.{Position}
use Rattle.scc_files.specs.declared.reader.Reader.{Reader}
use Rattle.scc_files.proofs.Complete.{judged_is}
use Rattle.scc_files.proofs.Sound.{Pairs, err_ok, judged_text, ok_is}
use Rattle.scc_files.proofs.Stays.{err_is, refused_ahead, refused_behind}

-- the reader after bytes, where none of them offends
abbrev pub reader_of : Result Stepped Offence → Option Reader
reader_of (Ok stepped) = Some stepped.0
reader_of (Err offence) = None

abbrev pub reach : Bool → Reader → List ℕ → Option Reader
reach j r [] = Some r
reach j r (byte ∷ bytes) = option_and_then (λ s. reach j s bytes) (reader_of (step j r byte))

-- where reading stops: at the end, or at a byte
abbrev pub Stops : Reader → List ℕ → ℕ → Refusal → Type 0
Stops s [] place refusal = (may_end s.phase ≡ false) × (refusal ≡ record { place = place; why = why_in s.phase })
Stops s (byte ∷ rest) place refusal =
    (offence : Offence) × (step true s byte ≡ Err offence) × (refusal ≡ record { place = place - offence.back; why = offence.why })

pub record Split (r : Reader) (bytes : List ℕ) (place : ℕ) (refusal : Refusal) : Type 0 where
  pub before : List ℕ
  pub rest : List ℕ
  pub s : Reader
  pub is : bytes ≡ before ++ rest
  pub reaches : reach true r before ≡ Some s
  pub stops : Stops s rest (place + length before) refusal

pub ends_at : (s : Reader) (place : ℕ) (refusal : Refusal) → read_from true place s [] ≡ Err refusal → Stops s [] place refusal
ends_at s place refusal is =
    let cases : (may : Bool) → may_end s.phase ≡ may → cond {A = Result Pairs Refusal} may (Ok []) (Err (record { place = place; why = why_in s.phase })) ≡ Err refusal → Stops s [] place refusal =
    elim [ true ↦ λ e h. absurd (err_ok (sym h)) | false ↦ λ e h. (e, sym (err_is h)) ] in
    cases (may_end s.phase) refl is

pub split : (bytes : List ℕ) (r : Reader) (place : ℕ) (refusal : Refusal) → read_from true place r bytes ≡ Err refusal → Split r bytes place refusal
split [] r place refusal is = record {
  before = [];
  rest = [];
  s = r;
  is = refl;
  reaches = refl;
  stops = subst (λ (n : ℕ). Stops r [] n refusal) (sym (add-zero place)) (ends_at r place refusal is);
}
split (byte ∷ bytes) r place refusal is =
    let cases : (x : Result Stepped Offence) → step true r byte ≡ x → behind place x (λ s. read_from true (place + 1) s bytes) ≡ Err refusal → Split r (byte ∷ bytes) place refusal =
    elim [
      | Ok stepped ↦ λ e h.
          let more = split bytes stepped.0 (place + 1) refusal (refused_behind stepped.1 _ refusal h) in
          let count : place + 1 + length more.before ≡ place + length (byte ∷ more.before) = omega arith in
          record {
            before = byte ∷ more.before;
            rest = more.rest;
            s = more.s;
            is = ap (λ z. byte ∷ z) more.is;
            reaches = ap (λ x. option_and_then (λ s. reach true s more.before) (reader_of x)) e ∙ more.reaches;
            stops = subst (λ (n : ℕ). Stops more.s more.rest n refusal) count more.stops;
          }
      | Err offence ↦ λ e h. record {
        before = [];
        rest = byte ∷ bytes;
        s = r;
        is = refl;
        reaches = refl;
        stops = (offence, e, sym (err_is h) ∙ ap (λ n. record { place = n - offence.back; why = offence.why }) (sym (add-zero place)));
      }
    ] in
    cases (step true r byte) refl is

pub some_reader : {r s : Reader} → Some r ≡ Some s → r ≡ s
some_reader is = cc

pub none_reader : {s : Reader} → None ≡ Some s → ⊥
none_reader is = cc

pub text_step : (to : Phase) (judge : Result Position Offence) (x : Stepped) → text_done to judge ≡ Ok x
    → (s : Position) × (judge ≡ Ok s) × ((record { phase = to; position = s }, None) ≡ x)
text_step to (Ok s) x is = (s, refl, ok_is is)
text_step to (Err offence) x is = absurd (err_ok is)

-- what is read after bytes that are taken
pub record ReadsAll (j : Bool) (r : Reader) (bytes : List ℕ) (place : ℕ) : Type 0 where
  pub out : Pairs
  pub is : read_from j place r bytes ≡ Ok out

pub given_ahead : (given : Option (ℕ × Pair)) (rest : Result Pairs Refusal) (out : Pairs) → rest ≡ Ok out → (all : Pairs) × (with_pair given rest ≡ Ok all)
given_ahead None rest out is = (out, is)
given_ahead (Some placed) rest out is = (placed ∷ out, ap (λ x. with_pair (Some placed) x) is)

pub replay : (j : Bool) (before more : List ℕ) (r s : Reader) (place : ℕ) → reach j r before ≡ Some s → ((at : ℕ) → ReadsAll j s more at) → ReadsAll j r (before ++ more) place
replay j [] more r s place is reads = subst (λ (x : Reader). ReadsAll j x more place) (sym (some_reader is)) (reads place)
replay j (byte ∷ before) more r s place is reads =
    let cases : (x : Result Stepped Offence) → step j r byte ≡ x → option_and_then (λ s. reach j s before) (reader_of x) ≡ Some s → ReadsAll j r (byte ∷ (before ++ more)) place =
    elim [
      | Ok stepped ↦ λ e h.
          let rest = replay j before more stepped.0 s (place + 1) h reads in
          let (out, all) = given_ahead stepped.1 (read_from j (place + 1) stepped.0 (before ++ more)) rest.out rest.is in
          record { out = out; is = ap (λ x. behind place x (λ s. read_from j (place + 1) s (before ++ more))) e ∙ all }
      | Err offence ↦ λ e h. absurd (none_reader h)
    ] in
    cases (step j r byte) refl is

-- and what is refused
pub record RefusesAll (j : Bool) (r : Reader) (bytes : List ℕ) (place : ℕ) : Type 0 where
  pub refusal : Refusal
  pub is : read_from j place r bytes ≡ Err refusal

pub replay_refused : (j : Bool) (before more : List ℕ) (r s : Reader) (place : ℕ) → reach j r before ≡ Some s → ((at : ℕ) → RefusesAll j s more at) → RefusesAll j r (before ++ more) place
replay_refused j [] more r s place is refuses = subst (λ (x : Reader). RefusesAll j x more place) (sym (some_reader is)) (refuses place)
replay_refused j (byte ∷ before) more r s place is refuses =
    let cases : (x : Result Stepped Offence) → step j r byte ≡ x → option_and_then (λ s. reach j s before) (reader_of x) ≡ Some s → RefusesAll j r (byte ∷ (before ++ more)) place =
    elim [
      | Ok stepped ↦ λ e h.
          let rest = replay_refused j before more stepped.0 s (place + 1) h refuses in
          record {
            refusal = rest.refusal;
            is = ap (λ x. behind place x (λ s. read_from j (place + 1) s (before ++ more))) e
                ∙ refused_ahead stepped.1 (read_from j (place + 1) stepped.0 (before ++ more)) rest.refusal rest.is;
          }
      | Err offence ↦ λ e h. absurd (none_reader h)
    ] in
    cases (step j r byte) refl is

-- bytes that are taken with their times judged are taken in form, to the same phase
pub record SamePhase (r : Reader) (s : Reader) (bytes : List ℕ) : Type 0 where
  pub at : Position
  pub reaches : reach false r bytes ≡ Some (record { phase = s.phase; position = at })

pub record FormStep (to : Phase) (p : Position) : Type 0 where
  pub at : Position
  pub given : Option (ℕ × Pair)
  pub is : reached false p to ≡ Ok (record { phase = to; position = at }, given)

pub form_text : (p q s : Position) (text : List ℕ) → judged true p text ≡ Ok s → judged false q text ≡ Ok q
form_text p q s text is =
    let (t, read, judge) = judged_text true p s text is in
    judged_is false q text t read

pub form_step : (to : Phase) (p q : Position) (x : Stepped) → reached true p to ≡ Ok x → (x.0.phase ≡ to) × FormStep to q
form_step (phase.First at) p q x is = (ap (λ y. y.0.phase) (sym (ok_is is)), record { at = q; given = None; is = refl })
form_step phase.FirstSpaces p q x is = (ap (λ y. y.0.phase) (sym (ok_is is)), record { at = q; given = None; is = refl })
form_step phase.FirstEnd p q x is = (ap (λ y. y.0.phase) (sym (ok_is is)), record { at = q; given = None; is = refl })
form_step phase.Start p q x is = (ap (λ y. y.0.phase) (sym (ok_is is)), record { at = q; given = None; is = refl })
form_step phase.Blank p q x is = (ap (λ y. y.0.phase) (sym (ok_is is)), record { at = q; given = None; is = refl })
form_step phase.End p q x is = (ap (λ y. y.0.phase) (sym (ok_is is)), record { at = q; given = None; is = refl })
form_step (phase.Text at text) p q x is = (ap (λ y. y.0.phase) (sym (ok_is is)), record { at = q; given = None; is = refl })
form_step (phase.Timed text) p q x is =
    let (s, judge, same) = text_step (phase.Timed text) (judged true p text) x is in
    (ap (λ y. y.0.phase) (sym same), record { at = q; given = None; is = ap (λ r. text_done (phase.Timed text) r) (form_text p q s text judge) })
form_step phase.Gap p q x is = (ap (λ y. y.0.phase) (sym (ok_is is)), record { at = q; given = None; is = refl })
form_step (phase.One value) p q x is = (ap (λ y. y.0.phase) (sym (ok_is is)), record { at = q; given = None; is = refl })
form_step (phase.Two first) p q x is = (ap (λ y. y.0.phase) (sym (ok_is is)), record { at = q; given = None; is = refl })
form_step (phase.Three first value) p q x is = (ap (λ y. y.0.phase) (sym (ok_is is)), record { at = q; given = None; is = refl })
form_step (phase.Whole pair) p q x is = (ap (λ y. y.0.phase) (sym (ok_is is)), record { at = pairs_on q 1; given = Some (q.next, pair); is = refl })
form_step phase.Between p q x is = (ap (λ y. y.0.phase) (sym (ok_is is)), record { at = q; given = None; is = refl })

-- a step of a phase that some byte leads to
pub moved_step : (j : Bool) (r : Reader) (m : Option Phase) (x : Stepped) → step_to j r m ≡ Ok x → (to : Phase) × (m ≡ Some to) × (reached j r.position to ≡ Ok x)
moved_step j r None x is = absurd (err_ok is)
moved_step j r (Some to) x is = (to, refl, is)

pub same_phase : (bytes : List ℕ) (from : Phase) (p q : Position) (s : Reader) → reach true (record { phase = from; position = p }) bytes ≡ Some s
    → SamePhase (record { phase = from; position = q }) s bytes
same_phase [] from p q s is = record { at = q; reaches = ap (λ x. Some (record { phase = x; position = q })) (ap (λ r. r.phase) (some_reader is)) }
same_phase (byte ∷ bytes) from p q s is =
    let cases : (x : Result Stepped Offence) → step true (record { phase = from; position = p }) byte ≡ x
    → option_and_then (λ s. reach true s bytes) (reader_of x) ≡ Some s → SamePhase (record { phase = from; position = q }) s (byte ∷ bytes) =
    elim [
      | Ok stepped ↦ λ e h.
          let (to, moves, reaches) = moved_step true (record { phase = from; position = p }) (phase_after from byte) stepped e in
          let (phase_is, form) = form_step to p q stepped reaches in
          let h' : reach true (record { phase = to; position = stepped.0.position }) bytes ≡ Some s =
          ap (λ f. reach true (record { phase = f; position = stepped.0.position }) bytes) (sym phase_is) ∙ h in
          let more = same_phase bytes to stepped.0.position form.at s h' in
          let stepped' : step false (record { phase = from; position = q }) byte ≡ Ok (record { phase = to; position = form.at }, form.given) =
          ap (λ m. step_to false (record { phase = from; position = q }) m) moves ∙ form.is in
          record {
            at = more.at;
            reaches = ap (λ x. option_and_then (λ s. reach false s bytes) (reader_of x)) stepped' ∙ more.reaches;
          }
      | Err offence ↦ λ e h. absurd (none_reader h)
    ] in
    cases (step true (record { phase = from; position = p }) byte) refl is
