-- The records of one cue pass no limit: of what is judged of them a field offends alone.
use Rattle.std.proofs.Common.{◌≡◌, Bool, true, false, if◌then◌else◌, List, [], ◌∷◌, Option, Some, None, Result, Ok, Err, refl}
use Rattle.std.specs.Prelude.{◌&&◌, option_map}
use Rattle.cc_base.specs.declared.limit_of.LimitOf.{LimitOf}
use Rattle.cc_base.specs.declared.why.Why.TheVariants as why
use Rattle.cue_form.specs.Begun.{Begun, cue_with_attributes, cue_with_colours, cue_with_run}
use Rattle.cue_form.specs.Form.{awaits_attributes, awaits_colours, is_second}
use Rattle.cue_form.specs.Judgements.{Judgement, attribute_judgements, colour_judgements, first_offence, rolled_judgements, run_judgements, shown_judgements, window_judgements}
use Rattle.cue_form.specs.Reading.{attributes_of, colours_of, cue_of, judged_value, next_of_kind, on_ok, run_of, unless}
use Rattle.cue_form.specs.Records.{Record}
use Rattle.cue_form.specs.declared.offence.Offence.{Offence}
use Rattle.cue_form.specs.declared.offence.Offence.TheVariants as offence
use Rattle.cue_form.specs.declared.record_kind.RecordKind.{RecordKind}
use Rattle.cue_form.specs.declared.record_kind.RecordKind.TheVariants as record_kind
use Rattle.cue_types.specs.declared.cue.Cue.{Cue}
use Rattle.cue_types.specs.declared.head.Head.{Head}
use Rattle.cue_records.specs.declared.record_role.RecordRole.TheVariants as role
use Rattle.cue_records.specs.CueApart.{begun_with, role_of}

-- each offends at a field
is_at : Offence → Bool
is_at (offence.At place why) = true
is_at (offence.Limit which) = false
is_at (offence.Memory error) = false

all_at : List Judgement → Bool
all_at [] = true
all_at (j ∷ js) = is_at j.offence && all_at js

-- no limit is answered
abbrev pub IsWithin : {A : Type 0} → Result A Offence → Type 0
IsWithin one = (which : LimitOf) → one ≡ Err (offence.Limit which) → ⊥

both_true : (a b : Bool) → a && b ≡ true → (a ≡ true) × (b ≡ true)
both_true true b e = (refl, e)
both_true false b e = cc

no_limit : (js : List Judgement) → all_at js ≡ true → (which : LimitOf) → first_offence js ≡ Some (offence.Limit which) → ⊥
unfolding all_at is_at
no_limit [] all which is = cc
no_limit (j ∷ js) all which is = by j.good (both_true (is_at j.offence) (all_at js) all) (λ rest. no_limit js rest which) is
  where
    here : (o : Offence) → is_at o ≡ true → Some o ≡ Some (offence.Limit which) → ⊥
    here o at e = let same : o ≡ offence.Limit which = cc in let never = rw same at at in cc

    by : (good : Bool) → (is_at j.offence ≡ true) × (all_at js ≡ true) → (all_at js ≡ true → first_offence js ≡ Some (offence.Limit which) → ⊥) → (if good then first_offence js else Some j.offence) ≡ Some (offence.Limit which) → ⊥
    by true both rest e = rest both.1 e
    by false both rest e = here j.offence both.0 e

judged_within : {A : Type 0} (js : List Judgement) (value : A) → all_at js ≡ true → IsWithin (judged_value js value)
judged_within js value all which = by (first_offence js) (no_limit js all which)
  where
    by : (o : Option Offence) → (o ≡ Some (offence.Limit which) → ⊥) → unless o value ≡ Err (offence.Limit which) → ⊥
    by None never e = cc
    by (Some o) never e = let same : o ≡ offence.Limit which = cc in never (rw same refl)

then_ok : {A B : Type 0} (one : Result A Offence) (f : A → B) → IsWithin one → IsWithin (on_ok one (λ value. Ok (f value)))
then_ok (Ok value) f within which e = cc
then_ok (Err o) f within which e = let same : o ≡ offence.Limit which = cc in within which (rw same refl)

-- the record that opens the cue
pub opened_within : (head : Head) (r : Record) (k : Option RecordKind) → role_of k ≡ role.Opens → IsWithin (next_of_kind (begun_with head [] [] None) k r)
unfolding all_at is_at
opened_within head r (Some record_kind.Pop) opens = then_ok (cue_of record_kind.Pop r) (λ cue. begun_with head [] [] (Some cue)) (judged_within (shown_judgements r) _ refl)
opened_within head r (Some record_kind.Paint) opens = then_ok (cue_of record_kind.Paint r) (λ cue. begun_with head [] [] (Some cue)) (judged_within (shown_judgements r) _ refl)
opened_within head r (Some record_kind.Roll) opens = then_ok (cue_of record_kind.Roll r) (λ cue. begun_with head [] [] (Some cue)) (judged_within (rolled_judgements r) _ refl)
opened_within head r (Some record_kind.Win) opens = then_ok (cue_of record_kind.Win r) (λ cue. begun_with head [] [] (Some cue)) (judged_within (window_judgements r) _ refl)
opened_within head r None opens = cc
opened_within head r (Some record_kind.Ccsuite) opens = cc
opened_within head r (Some record_kind.Share) opens = cc
opened_within head r (Some record_kind.Attr) opens = cc
opened_within head r (Some record_kind.Run) opens = cc
opened_within head r (Some record_kind.Colour) opens = cc

-- a record that continues it
part_within : {A : Type 0} (b : Begun) (with_it : A → Cue → Cue) (t : Bool) (r : Result A Offence) → IsWithin r
    → IsWithin (on_ok (unless (if t then None else Some (offence.At 1 why.Field)) b) (λ b. on_ok r (λ part. Ok (record b { last = option_map (with_it part) b.last }))))
part_within b with_it true r within which e = then_ok r (λ part. record b { last = option_map (with_it part) b.last }) within which e
part_within b with_it false r within which e = cc

run_within : (head : Head) (last : Option Cue) (r : Record) → IsWithin (next_of_kind (begun_with head [] [] last) (Some record_kind.Run) r)
unfolding all_at is_at
run_within head None r which e = cc
run_within head (Some cue) r which e =
    then_ok (run_of cue.kind cue.runs r) (λ run. record (begun_with head [] [] (Some cue)) { last = Some (cue_with_run cue run) })
    (judged_within (run_judgements cue.kind cue.runs r) _ refl) which e

pub continued_within : (head : Head) (last : Option Cue) (r : Record) (k : Option RecordKind) → role_of k ≡ role.Continues → IsWithin (next_of_kind (begun_with head [] [] last) k r)
unfolding all_at is_at
continued_within head last r (Some record_kind.Attr) on =
    part_within (begun_with head [] [] last) cue_with_attributes (is_second (Some head) && awaits_attributes last) (attributes_of r) (judged_within (attribute_judgements r) _ refl)
continued_within head last r (Some record_kind.Run) on = run_within head last r
continued_within head last r (Some record_kind.Colour) on =
    part_within (begun_with head [] [] last) cue_with_colours (is_second (Some head) && awaits_colours last) (colours_of r) (judged_within (colour_judgements r) _ refl)
continued_within head last r None on = cc
continued_within head last r (Some record_kind.Ccsuite) on = cc
continued_within head last r (Some record_kind.Share) on = cc
continued_within head last r (Some record_kind.Pop) on = cc
continued_within head last r (Some record_kind.Paint) on = cc
continued_within head last r (Some record_kind.Roll) on = cc
continued_within head last r (Some record_kind.Win) on = cc
