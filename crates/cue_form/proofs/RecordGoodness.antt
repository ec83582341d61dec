-- Judgements that are all good, and the first offence where one isn't.
use Rattle.std.proofs.Common.{◌≡◌, true, List, [], ◌∷◌, Option, Some, None, Result, Ok, Err, refl}
use Rattle.cue_form.specs.RecordJudgements.{Judgement, first_offence, judged_value, unless}
use Rattle.cue_form.specs.declared.offence.Offence.{Offence}
use Rattle.cue_form.proofs.Passing.{on_test}

-- each of them is good
abbrev pub AllGood : List Judgement → Type 0
AllGood [] = Unit {0}
AllGood (j ∷ js) = (j.good ≡ true) × AllGood js

-- what was read has good judgements alone, and its value
pub good_of : {A : Type 0} (js : List Judgement) (value read : A) → judged_value js value ≡ Ok read → AllGood js × (value ≡ read)
good_of [] value read e = (tt, let same : value ≡ read = cc in same)
good_of (j ∷ js) value read e =
    on_test _ j.good (λ f. let q = rw f at e in cc) (λ t. let more = good_of js value read (rw t at e) in ((t, more.0), more.1))

-- the offence of a record that was refused
abbrev pub offence_of : {A : Type 0} → Result A Offence → Option Offence
offence_of (Ok value) = None
offence_of (Err offence) = Some offence

-- it is the first of its judgements'
offence_unless : {A : Type 0} (o : Option Offence) (value : A) → offence_of (unless o value) ≡ o
offence_unless None value = refl
offence_unless (Some offence) value = refl

pub judged_offence : {A : Type 0} (js : List Judgement) (value : A) → offence_of (judged_value js value) ≡ first_offence js
judged_offence js value = offence_unless (first_offence js) value
