-- Bytes read one after another.
use Rattle.std.proofs.Common.{◌≡◌, ℕ, ◌+◌, ◌-◌, Bool, List, [], ◌∷◌, ◌++◌, append-nil, length, Option, Some, None, Result, Ok, Err, refl, ap, sym, ◌∙◌, subst, arith, add-zero}
use Rattle.cc_base.specs.declared.refusal.Refusal.{Refusal}
use Rattle.mcc_files.specs.MccFiles.{TimedPackets}
use Rattle.mcc_files.specs.Phases.{why_in}
use Rattle.mcc_files.specs.Reading.{State, at_end, behind, ends, placed_with, read_from, run, take_byte, then_run}
use Rattle.mcc_files.specs.declared.payload_reader.Offence.{Offence}

-- a step that was taken
pub record Went (one : Result State Offence) (rest : State → Result State Offence) (t : State) : Type 0 where
  pub next : State
  pub stepped : one ≡ Ok next
  pub more : rest next ≡ Ok t

pub went : (one : Result State Offence) (rest : State → Result State Offence) (t : State) → then_run one rest ≡ Ok t → Went one rest t
went (Ok next) rest t is = record { next = next; stepped = refl; more = is }
went (Err offence) rest t is = absurd (cc)

pub ok_same : (s t : State) → ◌≡◌ {A = Result State Offence} (Ok s) (Ok t) → s ≡ t
ok_same s t is = cc

-- bytes, and then others
pub run_on : (s : State) (xs ys : List ℕ) (t : State) → run s xs ≡ Ok t → run s (xs ++ ys) ≡ run t ys
run_on s [] ys t is = ap (λ r. run r ys) (ok_same s t is)
run_on s (x ∷ xs) ys t is =
    let w = went (take_byte s x) (λ n. run n xs) t is in
    subst (λ (r : Result State Offence). then_run r (λ n. run n (xs ++ ys)) ≡ run t ys) (sym w.stepped) (run_on w.next xs ys t w.more)

pub run_both : (s : State) (xs ys : List ℕ) (t u : State) → run s xs ≡ Ok t → run t ys ≡ Ok u → run s (xs ++ ys) ≡ Ok u
run_both s xs ys t u first second = run_on s xs ys t first ∙ second

pub run_one : (s : State) (byte : ℕ) (t : State) → take_byte s byte ≡ Ok t → run s (byte ∷ []) ≡ Ok t
run_one s byte t is = subst (λ (r : Result State Offence). then_run r (λ n. Ok n) ≡ Ok t) (sym is) refl

pub run_more : (s : State) (xs : List ℕ) (t : State) (byte : ℕ) (u : State) → run s xs ≡ Ok t → take_byte t byte ≡ Ok u → run s (xs ++ byte ∷ []) ≡ Ok u
run_more s xs t byte u first one = run_both s xs (byte ∷ []) t u first (run_one t byte u one)

-- the front of bytes that are read is read
pub record RunsTo (s : State) (bytes : List ℕ) : Type 0 where
  pub to : State
  pub is : run s bytes ≡ Ok to

pub run_front : (s : State) (xs ys : List ℕ) (u : State) → run s (xs ++ ys) ≡ Ok u → RunsTo s xs
run_front s [] ys u is = record { to = s; is = refl }
run_front s (x ∷ xs) ys u is =
    let w = went (take_byte s x) (λ n. run n (xs ++ ys)) u is in
    let r = run_front w.next xs ys u w.more in
    record { to = r.to; is = subst (λ (o : Result State Offence). then_run o (λ n. run n xs) ≡ Ok r.to) (sym w.stepped) r.is }

pub ok_one : (x : Result State Offence) (s t : State) → x ≡ Ok s → x ≡ Ok t → s ≡ t
ok_one x s t one other = cc

pub ok_err : (x : Result State Offence) (s : State) (o : Offence) → x ≡ Ok s → x ≡ Err o → ⊥
ok_err x s o one other = cc

-- the first byte of what is read
pub run_first : (s : State) (byte : ℕ) (bytes : List ℕ) (u : State) → run s (byte ∷ bytes) ≡ Ok u → RunsTo s (byte ∷ [])
run_first s byte bytes u is = run_front s (byte ∷ []) bytes u is

-- where a byte is refused nothing can continue with it
pub refused_stays : (s : State) (before : List ℕ) (byte : ℕ) (more : List ℕ) (t u : State) (o : Offence) → run s before ≡ Ok t → take_byte t byte ≡ Err o
    → run s (before ++ byte ∷ more) ≡ Ok u → ⊥
refused_stays s before byte more t u o reaches refused all =
    let rest : run t (byte ∷ more) ≡ Ok u = sym (run_on s before (byte ∷ more) t reaches) ∙ all in
    let w = went (take_byte t byte) (λ n. run n more) u rest in
    ok_err (take_byte t byte) w.next o w.stepped refused

-- what is read after bytes
pub read_on : (place : ℕ) (s : State) (xs ys : List ℕ) (t : State) → run s xs ≡ Ok t → read_from place s (xs ++ ys) ≡ read_from (place + length xs) t ys
read_on place s [] ys t is =
    subst (λ (p : ℕ). read_from place s ys ≡ read_from p t ys) (sym (add-zero place)) (ap (λ r. read_from place r ys) (ok_same s t is))
read_on place s (x ∷ xs) ys t is =
    let w = went (take_byte s x) (λ n. run n xs) t is in
    let at : place + 1 + length xs ≡ place + length (x ∷ xs) = omega arith in
    subst (λ (r : Result State Offence). behind place r (λ n. read_from (place + 1) n (xs ++ ys)) ≡ read_from (place + length (x ∷ xs)) t ys) (sym w.stepped)
    (subst (λ (p : ℕ). read_from (place + 1) w.next (xs ++ ys) ≡ read_from p t ys) at (read_on (place + 1) w.next xs ys t w.more))

-- bytes that are read as packets
pub record ReadsAs (s : State) (bytes : List ℕ) (placed : TimedPackets) : Type 0 where
  pub to : State
  pub packet : Bool
  pub is : run s bytes ≡ Ok to
  pub may : ends to ≡ Some packet
  pub all : placed ≡ placed_with to packet

pub ended_as : (s : State) (may : Option Bool) (place : ℕ) (placed : TimedPackets) → ends s ≡ may → at_end s may place ≡ Ok placed → ReadsAs s [] placed
ended_as s (Some packet) place placed may is = record { to = s; packet = packet; is = refl; may = may; all = cc }
ended_as s None place placed may is = absurd (cc)

pub read_as : (place : ℕ) (s : State) (bytes : List ℕ) (placed : TimedPackets) → read_from place s bytes ≡ Ok placed → ReadsAs s bytes placed
read_as place s [] placed is = ended_as s (ends s) place placed refl is
read_as place s (byte ∷ bytes) placed is =
    let cases : (x : Result State Offence) → take_byte s byte ≡ x → behind place x (λ n. read_from (place + 1) n bytes) ≡ Ok placed → ReadsAs s (byte ∷ bytes) placed =
    elim [
      | Ok next ↦ λ e h.
          let r = read_as (place + 1) next bytes placed h in
          record { to = r.to; packet = r.packet; is = subst (λ (o : Result State Offence). then_run o (λ n. run n bytes) ≡ Ok r.to) (sym e) r.is; may = r.may; all = r.all }
      | Err offence ↦ λ e h. absurd (cc)
    ] in
    cases (take_byte s byte) refl is

-- and so they are read
pub as_read : (place : ℕ) (s t : State) (bytes : List ℕ) (packet : Bool) → run s bytes ≡ Ok t → ends t ≡ Some packet → read_from place s bytes ≡ Ok (placed_with t packet)
as_read place s t bytes packet is may =
    let all = read_on place s bytes [] t is in
    subst (λ (b : List ℕ). read_from place s b ≡ Ok (placed_with t packet)) (append-nil bytes)
    (all ∙ ap (λ m. at_end t m (place + length bytes)) may)

-- how what is read stops
abbrev pub StopsAt : State → List ℕ → ℕ → Refusal → Type 0
StopsAt t [] place refusal = (ends t ≡ None) × (refusal ≡ record { place = place; why = why_in t.phase })
StopsAt t (byte ∷ rest) place refusal = (o : Offence) × (take_byte t byte ≡ Err o) × (refusal ≡ record { place = place - o.back; why = o.why })

pub record Stops (s : State) (place : ℕ) (bytes : List ℕ) (refusal : Refusal) : Type 0 where
  pub before : List ℕ
  pub rest : List ℕ
  pub to : State
  pub spelled : bytes ≡ before ++ rest
  pub is : run s before ≡ Ok to
  pub at : StopsAt to rest (place + length before) refusal

pub stops_at_end : (s : State) (may : Option Bool) (place : ℕ) (refusal : Refusal) → ends s ≡ may → at_end s may place ≡ Err refusal → Stops s place [] refusal
stops_at_end s (Some packet) place refusal may is = absurd (cc)
stops_at_end s None place refusal may is =
    let same : refusal ≡ record { place = place; why = why_in s.phase } = cc in
    record { before = []; rest = []; to = s; spelled = refl; is = refl; at = (may, subst (λ (p : ℕ). refusal ≡ record { place = p; why = why_in s.phase }) (sym (add-zero place)) same) }

pub stops : (place : ℕ) (s : State) (bytes : List ℕ) (refusal : Refusal) → read_from place s bytes ≡ Err refusal → Stops s place bytes refusal
stops place s [] refusal is = stops_at_end s (ends s) place refusal refl is
stops place s (byte ∷ bytes) refusal is =
    let cases : (x : Result State Offence) → take_byte s byte ≡ x → behind place x (λ n. read_from (place + 1) n bytes) ≡ Err refusal → Stops s place (byte ∷ bytes) refusal =
    elim [
      | Ok next ↦ λ e h.
          let r = stops (place + 1) next bytes refusal h in
          let at : place + 1 + length r.before ≡ place + length (byte ∷ r.before) = omega arith in
          record {
            before = byte ∷ r.before;
            rest = r.rest;
            to = r.to;
            spelled = ap (λ z. byte ∷ z) r.spelled;
            is = subst (λ (o : Result State Offence). then_run o (λ n. run n r.before) ≡ Ok r.to) (sym e) r.is;
            at = subst (λ (p : ℕ). StopsAt r.to r.rest p refusal) at r.at;
          }
      | Err offence ↦ λ e h.
          let same : refusal ≡ record { place = place - offence.back; why = offence.why } = cc in
          record {
            before = [];
            rest = byte ∷ bytes;
            to = s;
            spelled = refl;
            is = refl;
            at = (offence, e, subst (λ (p : ℕ). refusal ≡ record { place = p - offence.back; why = offence.why }) (sym (add-zero place)) same);
          }
    ] in
    cases (take_byte s byte) refl is

-- and so it stops
pub stops_read : (place : ℕ) (s t : State) (before : List ℕ) (byte : ℕ) (rest : List ℕ) (o : Offence) → run s before ≡ Ok t → take_byte t byte ≡ Err o
    → read_from place s (before ++ byte ∷ rest) ≡ Err (record { place = place + length before - o.back; why = o.why })
stops_read place s t before byte rest o is refused =
    read_on place s before (byte ∷ rest) t is ∙ ap (λ x. behind (place + length before) x (λ n. read_from (place + length before + 1) n rest)) refused

pub stops_short : (place : ℕ) (s t : State) (bytes : List ℕ) → run s bytes ≡ Ok t → ends t ≡ None → read_from place s bytes ≡ Err (record { place = place + length bytes; why = why_in t.phase })
stops_short place s t bytes is none =
    subst (λ (b : List ℕ). read_from place s b ≡ Err (record { place = place + length bytes; why = why_in t.phase })) (append-nil bytes)
    (read_on place s bytes [] t is ∙ ap (λ m. at_end t m (place + length bytes)) none)
