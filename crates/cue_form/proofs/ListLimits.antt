-- What is due for the records of a list: no limit but the ones on frames and cues, and never out of memory.
use Rattle.std.proofs.Common.{◌≡◌, ℕ, ◌+◌, ◌&&◌, Bool, true, false, List, [], ◌∷◌, Option, Some, None, Result, Ok, Err, refl, subst}
use Rattle.std.specs.Prelude.{⊤}
use Rattle.std.specs.declared.alloc.AllocError.{AllocError}
use Rattle.cc_base.specs.declared.limit_of.LimitOf.{LimitOf}
use Rattle.cc_base.specs.declared.limit_of.LimitOf.TheVariants as limit
use Rattle.cue_form.specs.Begun.{Begun, awaits_run, nothing}
use Rattle.cue_form.specs.Form.{record_kind_of}
use Rattle.cue_form.specs.Judgements.{Judgement, attribute_judgements, colour_judgements, head_judgements, rolled_judgements, room_at, room_judgement, run_judgements, share_judgements, shown_judgements, standing_judgement, window_judgements}
use Rattle.cue_form.specs.Reading.{adds, attributes_of, colours_of, cue_of, head_of, judged_value, list_ended, next, next_of_kind, on_ok, opens, read_from, read_list, read_on, run_of, runs_on, share_record_of}
use Rattle.cue_form.specs.Records.{Record, field, records_of}
use Rattle.cue_types.specs.Listing.{Listing}
use Rattle.cue_types.specs.declared.cue.Cue.{Cue}
use Rattle.cue_form.specs.declared.fault.CueFault.{CueFault}
use Rattle.cue_form.specs.declared.fault.CueFault.TheVariants as fault
use Rattle.cue_types.specs.declared.head.Head.{Head}
use Rattle.cue_form.specs.declared.offence.Offence.{Offence}
use Rattle.cue_form.specs.declared.offence.Offence.TheVariants as offence
use Rattle.cue_form.specs.declared.record_kind.RecordKind.{RecordKind}
use Rattle.cue_form.specs.declared.record_kind.RecordKind.TheVariants as record_kind
use Rattle.cue_form.proofs.Passing.{both_of, on_test}

-- the limits that records can pass
abbrev pub IsOfRecords : LimitOf → Type 0
IsOfRecords limit.Frames = ⊤
IsOfRecords limit.Cues = ⊤
IsOfRecords _ = ⊥

-- an offence passes no other limit, and is never out of memory
abbrev OffenceLimits : Offence → Type 0
OffenceLimits (offence.At place why) = ⊤
OffenceLimits (offence.Limit which) = IsOfRecords which
OffenceLimits (offence.Memory error) = ⊥

abbrev Limits : {A : Type 0} → Result A Offence → Type 0
Limits (Ok value) = ⊤
Limits (Err offence) = OffenceLimits offence

-- the same as a test
abbrev within_limits : Offence → Bool
within_limits (offence.At place why) = true
within_limits (offence.Limit limit.Frames) = true
within_limits (offence.Limit limit.Cues) = true
within_limits (offence.Limit which) = false
within_limits (offence.Memory error) = false

within_limits_is : (o : Offence) → within_limits o ≡ true → OffenceLimits o
within_limits_is (offence.At place why) e = tt
within_limits_is (offence.Limit limit.Frames) e = tt
within_limits_is (offence.Limit limit.Cues) e = tt
within_limits_is (offence.Limit limit.Bytes) e = cc
within_limits_is (offence.Limit limit.Packet) e = cc
within_limits_is (offence.Limit limit.Day) e = cc
within_limits_is (offence.Memory error) e = cc

-- judgements whose offences do
abbrev all_within : List Judgement → Bool
all_within [] = true
all_within (j ∷ js) = within_limits j.offence && all_within js

judged_limits : {A : Type 0} (js : List Judgement) (value : A) → all_within js ≡ true → Limits (judged_value js value)
judged_limits [] value each = tt
judged_limits (j ∷ js) value each =
    let (here, rest) = both_of (within_limits j.offence) (all_within js) each in
    on_test _ j.good (λ f. rw f (within_limits_is j.offence here)) (λ t. rw t (judged_limits js value rest))

-- what goes on passes no other limit where the part before doesn't
on_limits : {A B : Type 0} (r : Result A Offence) (rest : A → Result B Offence) → Limits r → ((value : A) → Limits (rest value)) → Limits (on_ok r rest)
on_limits (Ok value) rest part behind = behind value
on_limits (Err offence) rest part behind = part

cue_limits : (kind : RecordKind) (r : Record) → Limits (cue_of kind r)
cue_limits record_kind.Pop r = judged_limits (shown_judgements r) _ refl
cue_limits record_kind.Paint r = judged_limits (shown_judgements r) _ refl
cue_limits record_kind.Roll r = judged_limits (rolled_judgements r) _ refl
cue_limits record_kind.Ccsuite r = judged_limits (window_judgements r) _ refl
cue_limits record_kind.Share r = judged_limits (window_judgements r) _ refl
cue_limits record_kind.Win r = judged_limits (window_judgements r) _ refl
cue_limits record_kind.Attr r = judged_limits (window_judgements r) _ refl
cue_limits record_kind.Run r = judged_limits (window_judgements r) _ refl
cue_limits record_kind.Colour r = judged_limits (window_judgements r) _ refl

opens_limits : (b : Begun) (kind : RecordKind) (r : Record) → Limits (opens b kind r)
opens_limits b kind r =
    on_limits (judged_value (room_judgement b ∷ []) b) _ (judged_limits (room_judgement b ∷ []) b refl) (λ b. on_limits (cue_of kind r) _ (cue_limits kind r) (λ cue. tt))

runs_limits : (b : Begun) (last : Option Cue) (r : Record) → Limits (runs_on b last r)
runs_limits b None r = tt
runs_limits b (Some cue) r = on_limits (run_of cue.kind cue.runs r) _ (judged_limits (run_judgements cue.kind cue.runs r) _ refl) (λ run. tt)

adds_limits : (b : Begun) (kind : RecordKind) (r : Record) → Limits (adds b kind r)
adds_limits b record_kind.Ccsuite r = on_limits (head_of r) _ (judged_limits (head_judgements r) _ refl) (λ head. tt)
adds_limits b record_kind.Share r =
    on_limits (share_record_of (room_at b.head) b.shares r) _ (judged_limits (share_judgements (room_at b.head) b.shares r) _ refl) (λ share. tt)
adds_limits b record_kind.Pop r = opens_limits b record_kind.Pop r
adds_limits b record_kind.Paint r = opens_limits b record_kind.Paint r
adds_limits b record_kind.Roll r = opens_limits b record_kind.Roll r
adds_limits b record_kind.Win r = opens_limits b record_kind.Win r
adds_limits b record_kind.Attr r = on_limits (attributes_of r) _ (judged_limits (attribute_judgements r) _ refl) (λ attributes. tt)
adds_limits b record_kind.Run r = runs_limits b b.last r
adds_limits b record_kind.Colour r = on_limits (colours_of r) _ (judged_limits (colour_judgements r) _ refl) (λ colours. tt)

kind_limits : (b : Begun) (k : Option RecordKind) (r : Record) → Limits (next_of_kind b k r)
kind_limits b None r = tt
kind_limits b (Some kind) r =
    on_limits (judged_value (standing_judgement b kind ∷ []) b) _ (judged_limits (standing_judgement b kind ∷ []) b refl) (λ b. adds_limits b kind r)

next_limits : (b : Begun) (r : Record) → Limits (next b r)
next_limits b r = kind_limits b (record_kind_of (field r 0)) r

-- the same for a list
abbrev ListLimits : Result Listing CueFault → Type 0
ListLimits (Ok list) = ⊤
ListLimits (Err (fault.Memory error)) = ⊥
ListLimits (Err (fault.Limit which)) = IsOfRecords which
ListLimits (Err (fault.Malformed number place why)) = ⊤

ended_limits : (b : Begun) (head : Option Head) (number : ℕ) → ListLimits (list_ended b head number)
ended_limits b None number = tt
ended_limits b (Some head) number = on_test _ (awaits_run b.last) (λ f. rw f tt) (λ t. rw t tt)

on_limits_of : (number : ℕ) (r : Result Begun Offence) (rest : Begun → Result Listing CueFault) → Limits r → ((b : Begun) → ListLimits (rest b))
    → ListLimits (read_on number r rest)
on_limits_of number (Ok b) rest part behind = behind b
on_limits_of number (Err (offence.At place why)) rest part behind = tt
on_limits_of number (Err (offence.Limit which)) rest part behind = part
on_limits_of number (Err (offence.Memory error)) rest part behind = part

from_limits : (b : Begun) (number : ℕ) (rs : List Record) → ListLimits (read_from b number rs)
from_limits b number [] = ended_limits b b.head number
from_limits b number (r ∷ rs) = on_limits_of number (next b r) (λ more. read_from more (number + 1) rs) (next_limits b r) (λ more. from_limits more (number + 1) rs)

-- the limit that the records of these bytes pass
pub limit_of_records : (bytes : List ℕ) (which : LimitOf) → read_list bytes ≡ Err (fault.Limit which) → IsOfRecords which
limit_of_records bytes which is = subst ListLimits is (from_limits nothing 1 (records_of bytes))

-- 'out of memory' is never due for these bytes
pub no_want_of_memory : (bytes : List ℕ) (error : AllocError) → read_list bytes ≡ Err (fault.Memory error) → ⊥
no_want_of_memory bytes error is = subst ListLimits is (from_limits nothing 1 (records_of bytes))
