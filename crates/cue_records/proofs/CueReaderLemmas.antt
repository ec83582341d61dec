-- The records of a cue, taken one by one, begin a list that has its head alone.
use Rattle.std.proofs.Common.{◌≡◌, ◌∙◌, ℕ, ◌+◌, Bool, true, false, if◌then◌else◌, List, [], ◌∷◌, ◌++◌, length, Option, Some, None, Result, Ok, Err, refl, sym, ap, arith, append_assoc}
use Rattle.std.specs.Prelude.{◌&&◌, ◌==◌, is_some, option_map}
use Rattle.std.specs.List.{AllByRecursion}
use Rattle.std.proofs.lemmas.Bool.Decides.{nat_tests}
use Rattle.std.proofs.lemmas.List.{append-nil, length-append}
use Rattle.cue_form.specs.Answers.{AnswersOffence}
use Rattle.cue_form.specs.Begun.{AreOfVersion, Begun, IsBegun, cue_with_attributes, cue_with_colours, cue_with_run, no_runs}
use Rattle.cue_form.specs.Form.{awaits_attributes, awaits_colours, is_second}
use Rattle.cue_form.specs.declared.record_kind.RecordKind.{RecordKind}
use Rattle.cue_form.specs.declared.record_kind.RecordKind.TheVariants as record_kind
use Rattle.cue_types.specs.declared.cue.Run.{Run}
use Rattle.cue_form.specs.Reading.{attributes_of, colours_of, cue_of, in_record, list_ended, next, next_of_kind, on_ok, read_from, read_on, run_of, unless}
use Rattle.cue_form.specs.Records.{Record}
use Rattle.cue_form.specs.declared.fault.CueFault.{CueFault}
use Rattle.cue_form.specs.declared.fault.CueFault.TheVariants as fault
use Rattle.cue_form.specs.declared.offence.Offence.{Offence}
use Rattle.cue_form.specs.declared.offence.Offence.TheVariants as offence
use Rattle.cc_base.specs.declared.why.Why.TheVariants as why
use Rattle.cue_form.proofs.Steps.{IsBegun-next, IsFormed-list_ended}
use Rattle.cue_types.specs.Listing.{Listing}
use Rattle.cue_types.specs.declared.cue.Cue.{Cue}
use Rattle.cue_types.specs.declared.head.Head.{Head}
use Rattle.cue_types.specs.declared.head.Version.{Version}
use Rattle.cue_types.specs.declared.head.Version.TheVariants as version
use Rattle.cue_records.specs.declared.record_role.RecordRole.TheVariants as role
use Rattle.cue_records.specs.CueApart.{AnswersCue, AreOfCue, IsHead, begun_with, kind_of, read_apart, role_of}
use Rattle.cue_records.specs.CueReading.{HasBegun, IsDue}
use Rattle.cue_records.proofs.LimitLemmas.{IsWithin, continued_within, opened_within}
use Rattle.cue_records.proofs.ApartLemmas.{continued_alone, opened_alone, same_ok}

-- a list that has a head alone
none_of_version : (v : Version) → AreOfVersion v []
none_of_version version.One = λ k d h. absurd (omega arith)
none_of_version version.Two = tt

begun_by_head : (head : Head) → IsHead head → IsBegun (begun_with head [] [] None)
begun_by_head head is = record {
  head = record {
    rate = is.rate;
    some = is.some;
    frames = is.frames;
    shares = record { each = λ k d h. absurd (omega arith); once = λ i j d h k. absurd (omega arith); fits = omega arith };
    version = none_of_version head.version;
  };
  earlier = λ k d h. absurd (omega arith);
  last = refl;
  few = omega arith;
}

-- what a record begins is a list that has the head and the cue alone
stays_alone : (head : Head) (r : Result Begun Offence) (b : Begun) → on_ok r (λ one. Ok (begun_with head [] [] one.last)) ≡ r → r ≡ Ok b → b ≡ begun_with head [] [] b.last
stays_alone head r b same is =
    same_ok b (begun_with head [] [] b.last) r is (sym same ∙ ap (λ (r : Result Begun Offence). on_ok r (λ one. Ok (begun_with head [] [] one.last))) is)

-- and it has a cue
module _ (head : Head) (more : Begun) where
  has_one : (o : Result Cue Offence) → on_ok o (λ cue. Ok (begun_with head [] [] (Some cue))) ≡ Ok more → is_some more.last ≡ true
  has_one (Ok cue) taken = let is : begun_with head [] [] (Some cue) ≡ more = cc in rw (← is) refl
  has_one (Err fault) taken = cc

  opened_some : (r : Record) (k : Option RecordKind) → role_of k ≡ role.Opens → next_of_kind (begun_with head [] [] None) k r ≡ Ok more → is_some more.last ≡ true
  opened_some r (Some record_kind.Pop) opens taken = has_one (cue_of record_kind.Pop r) taken
  opened_some r (Some record_kind.Paint) opens taken = has_one (cue_of record_kind.Paint r) taken
  opened_some r (Some record_kind.Roll) opens taken = has_one (cue_of record_kind.Roll r) taken
  opened_some r (Some record_kind.Win) opens taken = has_one (cue_of record_kind.Win r) taken
  opened_some r None opens taken = cc
  opened_some r (Some record_kind.Ccsuite) opens taken = cc
  opened_some r (Some record_kind.Share) opens taken = cc
  opened_some r (Some record_kind.Attr) opens taken = cc
  opened_some r (Some record_kind.Run) opens taken = cc
  opened_some r (Some record_kind.Colour) opens taken = cc

  has_part : {A : Type 0} (cue : Cue) (with_part : A → Cue → Cue) (t : Bool) (o : Offence) (r : Result A Offence)
      → on_ok (unless (if t then None else Some o) (begun_with head [] [] (Some cue))) (λ b. on_ok r (λ part. Ok (record b { last = option_map (with_part part) b.last }))) ≡ Ok more
      → is_some more.last ≡ true
  has_part cue with_part true o (Ok part) taken = let is : begun_with head [] [] (Some (with_part part cue)) ≡ more = cc in rw (← is) refl
  has_part cue with_part true o (Err fault) taken = cc
  has_part cue with_part false o r taken = cc

  has_run : (cue : Cue) (r : Result Run Offence) → on_ok r (λ run. Ok (record (begun_with head [] [] (Some cue)) { last = Some (cue_with_run cue run) })) ≡ Ok more → is_some more.last ≡ true
  has_run cue (Ok run) taken = let is : begun_with head [] [] (Some (cue_with_run cue run)) ≡ more = cc in rw (← is) refl
  has_run cue (Err fault) taken = cc

  continued_some : (cue : Cue) (r : Record) (k : Option RecordKind) → role_of k ≡ role.Continues → next_of_kind (begun_with head [] [] (Some cue)) k r ≡ Ok more → is_some more.last ≡ true
  continued_some cue r (Some record_kind.Attr) on taken = has_part cue cue_with_attributes (is_second (Some head) && awaits_attributes (Some cue)) (offence.At 1 why.Field) (attributes_of r) taken
  continued_some cue r (Some record_kind.Run) on taken = has_run cue (run_of cue.kind cue.runs r) taken
  continued_some cue r (Some record_kind.Colour) on taken = has_part cue cue_with_colours (is_second (Some head) && awaits_colours (Some cue)) (offence.At 1 why.Field) (colours_of r) taken
  continued_some cue r None on taken = cc
  continued_some cue r (Some record_kind.Ccsuite) on taken = cc
  continued_some cue r (Some record_kind.Share) on taken = cc
  continued_some cue r (Some record_kind.Pop) on taken = cc
  continued_some cue r (Some record_kind.Paint) on taken = cc
  continued_some cue r (Some record_kind.Roll) on taken = cc
  continued_some cue r (Some record_kind.Win) on taken = cc

  still_some : (last : Option Cue) (r : Record) (k : Option RecordKind) → is_some last ≡ true → role_of k ≡ role.Continues → next_of_kind (begun_with head [] [] last) k r ≡ Ok more
      → is_some more.last ≡ true
  still_some None r k some on taken = cc
  still_some (Some cue) r k some on taken = continued_some cue r k on taken

-- the record that opens the cue
pub begins : (head : Head) (number : ℕ) (r : Record) (b : Begun) → IsHead head → role_of (kind_of r) ≡ role.Opens → next (begun_with head [] [] None) r ≡ Ok b
    → HasBegun head number (r ∷ []) (Ok b)
begins head number r b is opens taken = record {
  begun = IsBegun-next (begun_with head [] [] None) b r (begun_by_head head is) taken;
  alone = stays_alone head (next (begun_with head [] [] None) r) b (opened_alone head r (kind_of r) opens) taken;
  some = opened_some head b r (kind_of r) opens taken;
  reads = λ rest. ap (λ (one : Result Begun Offence). read_on number one (λ b. read_from b (number + 1) rest)) taken;
}

-- a fault of the next record
due_of : (due : Result Listing CueFault) (o : Offence) (number : ℕ) (one : Result Begun Offence) (rest : Begun → Result Listing CueFault) (f : CueFault)
    → due ≡ read_on number one rest → IsWithin one → AnswersOffence one o → f ≡ in_record number o → IsDue due f
due_of due (offence.Memory error) number one rest f is within took at = rw at tt
due_of due (offence.Limit which) number one rest f is within took at = absurd (within which took)
due_of due (offence.At place why) number one rest f is within took at = rw (at, is, took) refl

pub begins_faulty : (head : Head) (number : ℕ) (r : Record) (o : Offence) (f : CueFault) → role_of (kind_of r) ≡ role.Opens → AnswersOffence (next (begun_with head [] [] None) r) o → f ≡ in_record number o
    → HasBegun head number (r ∷ []) (Err f)
begins_faulty head number r o f opens took at rest =
    due_of (read_apart head number (r ∷ rest)) o number (next (begun_with head [] [] None) r) (λ b. read_from b (number + 1) rest) f refl (opened_within head r (kind_of r) opens) took at

-- a record more
one_more : (number : ℕ) (records : List Record) (r : Record) → number + length (records ++ r ∷ []) ≡ (number + length records) + 1
one_more number records r = omega (arith, length-append records (r ∷ []))

pub goes_on : (head : Head) (number : ℕ) (records : List Record) (r : Record) (b more : Begun) → HasBegun head number records (Ok b) → role_of (kind_of r) ≡ role.Continues → next b r ≡ Ok more
    → HasBegun head number (records ++ r ∷ []) (Ok more)
goes_on head number records r b more has on taken = record {
  begun = IsBegun-next b more r has.begun taken;
  alone = stays_alone head (next b r) more by taken;
  some = still_some head more b.last r (kind_of r) has.some on (rw has.alone at taken);
  reads = λ rest.
      ap (read_apart head number) (append_assoc records (r ∷ []) rest) ∙ has.reads (r ∷ rest)
      ∙ ap (λ (one : Result Begun Offence). read_on (number + length records) one (λ b. read_from b ((number + length records) + 1) rest)) taken
      ∙ ap (λ (n : ℕ). read_from more n rest) (sym (one_more number records r));
}
  where
    by : on_ok (next b r) (λ one. Ok (begun_with head [] [] one.last)) ≡ next b r
    by = rw has.alone (continued_alone head b.last r (kind_of r) on)

pub goes_faulty : (head : Head) (number : ℕ) (records : List Record) (r : Record) (b : Begun) (o : Offence) (f : CueFault) → HasBegun head number records (Ok b)
    → role_of (kind_of r) ≡ role.Continues → AnswersOffence (next b r) o → f ≡ in_record (number + length records) o → HasBegun head number (records ++ r ∷ []) (Err f)
goes_faulty head number records r b o f has on took at rest =
    due_of (read_apart head number ((records ++ r ∷ []) ++ rest)) o (number + length records) (next b r) (λ b. read_from b ((number + length records) + 1) rest) f
    (ap (read_apart head number) (append_assoc records (r ∷ []) rest) ∙ has.reads (r ∷ rest)) within took at
  where
    within : IsWithin (next b r)
    within = rw has.alone (continued_within head b.last r (kind_of r) on)

pub stays_faulty : (head : Head) (number : ℕ) (records : List Record) (r : Record) (f : CueFault) → HasBegun head number records (Err f) → HasBegun head number (records ++ r ∷ []) (Err f)
stays_faulty head number records r f has rest = rw append_assoc (has (r ∷ rest))

continues_all : (records : List Record) (r : Record) → AllByRecursion (λ (more : Record). role_of (kind_of more) ≡ role.Continues) records → role_of (kind_of r) ≡ role.Continues
    → AllByRecursion (λ (more : Record). role_of (kind_of more) ≡ role.Continues) (records ++ r ∷ [])
continues_all [] r all on = (on, tt)
continues_all (x ∷ records) r all on = (all.0, continues_all records r all.1 on)

pub of_cue_more : (records : List Record) (r : Record) → AreOfCue records → role_of (kind_of r) ≡ role.Continues → AreOfCue (records ++ r ∷ [])
of_cue_more [] r of_cue on = absurd of_cue
of_cue_more (x ∷ records) r of_cue on = (of_cue.0, continues_all records r of_cue.1 on)

-- the end of the cue
at_end : (head : Head) (number : ℕ) (records : List Record) (b : Begun) → HasBegun head number records (Ok b)
    → read_apart head number records ≡ list_ended (begun_with head [] [] b.last) (Some head) (number + length records)
at_end head number records b has =
    ap (read_apart head number) (sym (append-nil records)) ∙ has.reads [] ∙ ap (λ (b : Begun). list_ended b b.head (number + length records)) has.alone

pub ends_faulty : (head : Head) (number : ℕ) (records : List Record) (f : CueFault) → HasBegun head number records (Err f) → AnswersCue head (read_apart head number records) (Err f)
ends_faulty head number records (fault.Memory error) has = tt
ends_faulty head number records (fault.Limit which) has = has []
ends_faulty head number records (fault.Malformed rec place why) has = ap (read_apart head number) (sym (append-nil records)) ∙ has []

-- a list of runs is empty, or isn't
pub none_if : (runs : List Run) (empty : Bool) → empty ≡ (length runs == 0) → no_runs runs ≡ empty
none_if [] empty is = sym is
none_if (run ∷ runs) true is = let none : length (run ∷ runs) ≡ 0 = grind (arith, nat_tests) in absurd (omega arith)
none_if (run ∷ runs) false is = refl

-- without a run, and with one
pub ends_awaiting : (head : Head) (number : ℕ) (records : List Record) (b : Begun) (cue : Cue) → HasBegun head number records (Ok b) → b.last ≡ Some cue → no_runs cue.runs ≡ true
    → AnswersCue head (read_apart head number records) (Err (fault.Malformed (number + length records) 1 why.Field))
ends_awaiting head number records b cue has is none = at_end head number records b has ∙ (rw (is, none) refl)

pub ends_formed : (head : Head) (number : ℕ) (records : List Record) (b : Begun) (cue : Cue) → HasBegun head number records (Ok b) → b.last ≡ Some cue → no_runs cue.runs ≡ false
    → AnswersCue head (read_apart head number records) (Ok cue)
ends_formed head number records b cue has is some =
    (at_end head number records b has ∙ (rw (is, some) refl), (IsFormed-list_ended (begun_with head [] [] (Some cue)) head alone refl some).cues 0 cue (omega arith), of_version)
  where
    alone : IsBegun (begun_with head [] [] (Some cue))
    alone = rw is at (rw has.alone at has.begun)

    of_version : AreOfVersion head.version (cue ∷ [])
    of_version = alone.head.version
