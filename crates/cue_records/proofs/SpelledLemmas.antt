-- The numbers of records may begin anywhere; so what is read apart is said of the head's record and these.
use Rattle.std.proofs.Common.{◌≡◌, ◌∙◌, ℕ, ◌+◌, Bool, true, false, if◌then◌else◌, List, [], ◌∷◌, Option, Some, None, Result, Ok, Err, refl, ap, arith}
use Rattle.cc_base.specs.declared.why.Why.{Why}
use Rattle.cc_base.specs.declared.why.Why.TheVariants as why
use Rattle.cue_form.specs.Begun.{Begun, awaits_run, cues_of}
use Rattle.cue_form.specs.FirstFault.{IsFirstFault}
use Rattle.cue_form.specs.Reading.{in_record, list_ended, next, read_from, read_on, spelled_list}
use Rattle.cue_form.specs.Records.{Record}
use Rattle.cue_form.specs.Spelling.{SpellsList, head_record}
use Rattle.cue_form.specs.declared.fault.CueFault.{CueFault}
use Rattle.cue_form.specs.declared.fault.CueFault.TheVariants as fault
use Rattle.cue_form.specs.declared.offence.Offence.{Offence}
use Rattle.cue_form.specs.declared.offence.Offence.TheVariants as offence
use Rattle.cue_form.proofs.Complete.{head_read}
use Rattle.cue_form.proofs.Judged.{list_of_fault}
use Rattle.cue_form.proofs.Spelled.{list_of_spelled}
use Rattle.cue_types.specs.Listing.{Listing}
use Rattle.cue_types.specs.declared.head.Head.{Head}
use Rattle.cue_records.specs.CueApart.{IsHead, begun_with, read_apart}

-- two answers are the same but for the number of the first record
abbrev pub AreAlike : ℕ → ℕ → Result Listing CueFault → Result Listing CueFault → Type 0
AreAlike n m (Ok list) other = other ≡ Ok list
AreAlike n m (Err (fault.Memory error)) other = other ≡ Err (fault.Memory error)
AreAlike n m (Err (fault.Limit which)) other = other ≡ Err (fault.Limit which)
AreAlike n m (Err (fault.Malformed rec place why)) other = (k : ℕ) × (rec ≡ n + k) × (other ≡ Err (fault.Malformed (m + k) place why))

alike_before : (n m : ℕ) (one other : Result Listing CueFault) → AreAlike (n + 1) (m + 1) one other → AreAlike n m one other
alike_before n m (Ok list) other alike = alike
alike_before n m (Err (fault.Memory error)) other alike = alike
alike_before n m (Err (fault.Limit which)) other alike = alike
alike_before n m (Err (fault.Malformed rec place why)) other (k, at, is) =
    let same : (m + 1) + k ≡ m + (k + 1) = omega arith in
    (k + 1, omega arith, is ∙ ap (λ (number : ℕ). Err (fault.Malformed number place why)) same)

alike_here : (n m : ℕ) (o : Offence) → AreAlike n m (Err (in_record n o)) (Err (in_record m o))
alike_here n m (offence.At place why) =
    let same : m ≡ m + 0 = omega arith in (0, omega arith, ap (λ (number : ℕ). Err (fault.Malformed number place why)) same)
alike_here n m (offence.Limit which) = refl
alike_here n m (offence.Memory error) = refl

alike_ended : (b : Begun) (head : Option Head) (n m : ℕ) → AreAlike n m (list_ended b head n) (list_ended b head m)
alike_ended b None n m = alike_here n m (offence.At 1 why.Field)
alike_ended b (Some head) n m = by (awaits_run b.last)
  where
    by : (awaits : Bool) → AreAlike n m
        (if awaits then Err (fault.Malformed n 1 why.Field) else Ok (record { rate = head.rate; frames = head.frames; shares = b.shares; cues = cues_of b }))
        (if awaits then Err (fault.Malformed m 1 why.Field) else Ok (record { rate = head.rate; frames = head.frames; shares = b.shares; cues = cues_of b }))
    by true = alike_here n m (offence.At 1 why.Field)
    by false = refl

alike_on : (n m : ℕ) (rest : ℕ → Begun → Result Listing CueFault) (one : Result Begun Offence) → ((b : Begun) → AreAlike n m (rest n b) (rest m b))
    → AreAlike n m (read_on n one (rest n)) (read_on m one (rest m))
alike_on n m rest (Ok b) alike = alike b
alike_on n m rest (Err o) alike = alike_here n m o

pub read_alike : (records : List Record) (b : Begun) (n m : ℕ) → AreAlike n m (read_from b n records) (read_from b m records)
read_alike [] b n m = alike_ended b b.head n m
read_alike (r ∷ records) b n m =
    alike_on n m (λ number more. read_from more (number + 1) records) (next b r)
    (λ more. alike_before n m (read_from more (n + 1) records) (read_from more (m + 1) records) (read_alike records more (n + 1) (m + 1)))

-- the head's record and the others
spelled_apart : (head : Head) (records : List Record) → IsHead head → spelled_list (head_record head ∷ records) ≡ read_apart head 2 records
spelled_apart head records is = (head_read head is.rate is.some is.frames).read 1 records

pub apart_is_spelled : (head : Head) (number : ℕ) (records : List Record) (list : Listing) → IsHead head → read_apart head number records ≡ Ok list
    → SpellsList (head_record head ∷ records) list
apart_is_spelled head number records list is read =
    list_of_spelled (head_record head ∷ records) list
    (spelled_apart head records is ∙ (rw read at (read_alike records (begun_with head [] [] None) number 2)))

pub apart_is_faulty : (head : Head) (number : ℕ) (records : List Record) (rec place : ℕ) (why : Why) → IsHead head
    → read_apart head number records ≡ Err (fault.Malformed rec place why)
    → (k : ℕ) × (rec ≡ number + k) × IsFirstFault (head_record head ∷ records) (fault.Malformed (k + 2) place why)
apart_is_faulty head number records rec place why is read =
    let (k, at, other) = rw read at (read_alike records (begun_with head [] [] None) number 2) in
    let same : 2 + k ≡ k + 2 = omega arith in (
      k,
      at,
      list_of_fault (head_record head ∷ records) (fault.Malformed (k + 2) place why)
          (spelled_apart head records is ∙ other ∙ ap (λ (number : ℕ). Err (fault.Malformed number place why)) same),
    )
