-- Offences of what goes on from a record that was judged.
use Rattle.std.proofs.Common.{◌≡◌, true, List, [], ◌∷◌, Result, Ok, Err, refl}
use Rattle.cue_form.specs.Answers.{AnswersOffence}
use Rattle.cue_form.specs.Judgements.{Judgement, first_offence}
use Rattle.cue_form.specs.Reading.{judged_value, on_ok}
use Rattle.cue_form.specs.declared.offence.Offence.{Offence}
use Rattle.cue_form.specs.declared.offence.Offence.TheVariants as offence
pub use Rattle.cue_form.proofs.RecordGoodness.{AllGood, good_of, judged_offence, offence_of}
use Rattle.cue_form.proofs.Passing.{on_test}

-- a part whose value is only carried on
pub carried : {A B : Type 0} (part : Result A Offence) (rest : A → B) → offence_of (on_ok part (λ x. Ok (rest x))) ≡ offence_of part
carried (Ok x) rest = refl
carried (Err offence) rest = refl

-- one judgement before others
pub behind : {A B : Type 0} (j : Judgement) (value : A) (rest : A → Result B Offence) (js : List Judgement)
    → offence_of (rest value) ≡ first_offence js → offence_of (on_ok (judged_value (j ∷ []) value) rest) ≡ first_offence (j ∷ js)
behind j value rest js same = on_test _ j.good (λ f. rw f refl) (λ t. rw t same)

-- what one good judgement lets go on
pub passed_on : {A B : Type 0} (j : Judgement) (value : A) (rest : A → Result B Offence) (read : B)
    → on_ok (judged_value (j ∷ []) value) rest ≡ Ok read → (j.good ≡ true) × (rest value ≡ Ok read)
passed_on j value rest read e = on_test _ j.good (λ f. let q = rw f at e in cc) (λ t. (t, rw t at e))

-- a part that is refused, and nothing goes on from it
pub refused_part : {A B : Type 0} (part : Result A Offence) (rest : A → Result B Offence) (o : Offence) → Err o ≡ part → AnswersOffence (on_ok part rest) o
refused_part part rest (offence.Memory error) is = tt
refused_part part rest (offence.Limit which) is = rw (← is) refl
refused_part part rest (offence.At place why) is = rw (← is) refl
