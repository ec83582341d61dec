-- A record is refused exactly at the first of its judgements that isn't good.
use Rattle.std.proofs.Common.{◌≡◌, ℕ, ◌+◌, List, [], ◌∷◌, ◌++◌, length, Option, Some, None, Err, refl, sym, ◌∙◌, append_assoc, length-append, arith, inl, inr, ap}
use Rattle.std.proofs.lemmas.List.{append-nil}
use Rattle.cc_base.specs.declared.why.Why.TheVariants as why
use Rattle.cue_form.specs.Begun.{Begun, awaits_run, nothing}
use Rattle.cue_form.specs.FirstFault.{IsFirstFault, RecordsEndEarly}
use Rattle.cue_form.specs.Judgements.{Judgement, attribute_judgements, colour_judgements, field_judgements, first_offence, head_judgements, judgements, last_judgements, rolled_judgements, room_at, room_judgement, run_judgements, share_judgements, shown_judgements, standing_judgement, window_judgements}
use Rattle.cue_form.specs.Form.{record_kind_of}
use Rattle.cue_form.specs.Reading.{adds, attributes_of, colours_of, cue_of, head_of, in_record, list_ended, next, opens, read_from, run_of, runs_on, share_record_of, spelled_list}
use Rattle.cue_form.specs.Records.{Record, field}
use Rattle.cue_types.specs.declared.cue.Cue.{Cue}
use Rattle.cue_form.specs.declared.fault.CueFault.{CueFault}
use Rattle.cue_form.specs.declared.fault.CueFault.TheVariants as malformed
use Rattle.cue_types.specs.declared.head.Head.{Head}
use Rattle.cue_form.specs.declared.record_kind.RecordKind.{RecordKind}
use Rattle.cue_form.specs.declared.record_kind.RecordKind.TheVariants as record_kind
use Rattle.cue_form.proofs.Goodness.{behind, carried, judged_offence, offence_of}
use Rattle.cue_form.proofs.Offended.{offends_told}
use Rattle.cue_form.proofs.Passing.{on_part, on_test, on_value}
use Rattle.cue_form.proofs.StandingTold.{awaits_told}
use Rattle.cue_form.proofs.Spelled.{Read, read_more, read_nothing}

runs_judged : (b : Begun) (last : Option Cue) (r : Record) → offence_of (runs_on b last r) ≡ first_offence (last_judgements last r)
runs_judged b None r = refl
runs_judged b (Some cue) r = carried (run_of cue.kind cue.runs r) _ ∙ judged_offence (run_judgements cue.kind cue.runs r) _

opened_judged : (b : Begun) (k : RecordKind) (r : Record) (js : List Judgement) → offence_of (cue_of k r) ≡ first_offence js → offence_of (opens b k r) ≡ first_offence (room_judgement b ∷ js)
opened_judged b k r js same = behind (room_judgement b) b _ js (carried (cue_of k r) _ ∙ same)

adds_judged : (b : Begun) (k : RecordKind) (r : Record) → offence_of (adds b k r) ≡ first_offence (field_judgements b k r)
adds_judged b record_kind.Ccsuite r = carried (head_of r) _ ∙ judged_offence (head_judgements r) _
adds_judged b record_kind.Share r = carried (share_record_of (room_at b.head) b.shares r) _ ∙ judged_offence (share_judgements (room_at b.head) b.shares r) _
adds_judged b record_kind.Pop r = opened_judged b record_kind.Pop r (shown_judgements r) (judged_offence (shown_judgements r) _)
adds_judged b record_kind.Paint r = opened_judged b record_kind.Paint r (shown_judgements r) (judged_offence (shown_judgements r) _)
adds_judged b record_kind.Roll r = opened_judged b record_kind.Roll r (rolled_judgements r) (judged_offence (rolled_judgements r) _)
adds_judged b record_kind.Win r = opened_judged b record_kind.Win r (window_judgements r) (judged_offence (window_judgements r) _)
adds_judged b record_kind.Attr r = carried (attributes_of r) _ ∙ judged_offence (attribute_judgements r) _
adds_judged b record_kind.Run r = runs_judged b b.last r
adds_judged b record_kind.Colour r = carried (colours_of r) _ ∙ judged_offence (colour_judgements r) _

pub next_judged : (b : Begun) (r : Record) → offence_of (next b r) ≡ first_offence (judgements b r)
next_judged b r =
    on_value _ (record_kind_of (field r 0)) (λ f. rw f refl) (λ k is. rw is (behind (standing_judgement b k) b (λ b. adds b k r) (field_judgements b k r) (adds_judged b k r)))

-- the place of the record after those before
length-more : (before : List Record) (r : Record) (number : ℕ) → number ≡ length before + 1 → number + 1 ≡ length (before ++ r ∷ []) + 1
length-more before r number e = rw length-append (omega arith)

-- a list that ended too early
ended_early : (before : List Record) (b : Begun) (head : Option Head) (number : ℕ) (f : CueFault) → Read before b → b.head ≡ head → number ≡ length before + 1 → list_ended b head number ≡ Err f → RecordsEndEarly before f
ended_early before b None number f so_far headed place taken =
    record { begun = b; are = so_far.begins.0; begins = so_far.begins.1; lacks = inl headed; place = rw (← place) (let same : malformed.Malformed number 1 why.Field ≡ f = cc in sym same) }
ended_early before b (Some head) number f so_far headed place taken =
    on_test _ (awaits_run b.last)
    (λ full. let q = rw full at taken in cc)
    (λ awaits. let t1 = rw awaits at taken in
    record { begun = b; are = so_far.begins.0; begins = so_far.begins.1; lacks = inr ((awaits_told b.last).0 awaits); place = rw (← place) (let same : malformed.Malformed number 1 why.Field ≡ f = cc in sym same) })

pub fault_from : (before rs : List Record) (b : Begun) (number : ℕ) (f : CueFault) → Read before b → number ≡ length before + 1 → read_from b number rs ≡ Err f → IsFirstFault (before ++ rs) f
fault_from before [] b number f so_far place taken = rw append-nil (inr (ended_early before b b.head number f so_far refl place taken))
fault_from before (r ∷ rs) b number f so_far place taken =
    on_part _ (next b r)
    (λ offence refused.
    let t1 = rw refused at taken in
    let same : in_record number offence ≡ f = cc in
    inl (record {
      begun = b;
      offender = r;
      after = rs;
      offence = offence;
      split = ap (λ (l : List Record). l ++ r ∷ rs) so_far.begins.0;
      begins = so_far.begins.1;
      offends = offends_told b r so_far.begins.1 offence (sym (next_judged b r) ∙ rw refused refl);
      place = sym same ∙ ap (λ (n : ℕ). in_record n offence) (place ∙ ap (λ (l : List Record). length l + 1) so_far.begins.0);
    }))
    (λ more is_more.
    let t1 = rw is_more at taken in
    rw (← append_assoc before (r ∷ []) rs) (fault_from (before ++ r ∷ []) rs more (number + 1) f (read_more before b more r so_far is_more) (length-more before r number place) t1))

-- records that weren't read as a list have their first fault where the reading stopped
pub list_of_fault : (rs : List Record) (f : CueFault) → spelled_list rs ≡ Err f → IsFirstFault rs f
list_of_fault rs f taken = fault_from [] rs nothing 1 f read_nothing (omega arith) taken
