-- A record that can't be taken is the list's first fault.
use Rattle.std.proofs.Common.{◌≡◌, ℕ, List, ◌∷◌, Result, Ok, Err, IfOk, IfErr, refl}
use Rattle.cue_form.specs.Answers.{Answers, AnswersOffence}
use Rattle.cue_form.specs.Begun.{Begun}
use Rattle.cue_types.specs.Listing.{Listing}
use Rattle.cue_form.specs.Reading.{in_record, next, read_from, spelled_list}
use Rattle.cue_form.specs.FirstFault.{FaultsFirst}
use Rattle.cue_form.specs.Records.{Record}
use Rattle.cue_form.specs.Spelling.{SpellsList}
use Rattle.cue_form.specs.declared.fault.CueFault.TheVariants as fault
use Rattle.cue_form.proofs.Judged.{list_of_fault}
use Rattle.cue_form.proofs.Spelled.{list_of_spelled}
use Rattle.cue_form.specs.declared.fault.CueFault.{CueFault}
use Rattle.cue_form.specs.declared.offence.Offence.{Offence}
use Rattle.cue_form.specs.declared.offence.Offence.TheVariants as offence

-- the first record that is left is refused
pub refused : (due : Result Listing CueFault) (b : Begun) (number : ℕ) (rows rest : List Record) (row : Record) (o : Offence) (f : CueFault)
    → due ≡ read_from b number rows → rows ≡ row ∷ rest → AnswersOffence (next b row) o → f ≡ in_record number o → Answers due (Err f)
refused due b number rows rest row (offence.Memory error) f is left took at = rw at tt
refused due b number rows rest row (offence.Limit which) f is left took at = rw (at, is, left, took) refl
refused due b number rows rest row (offence.At place why) f is left took at = rw (at, is, left, took) refl

-- what an answer says of the records: that they spell the list, or their first fault
pub answered_list : (rs : List Record) (l : Listing) → Answers (spelled_list rs) (Ok l) → SpellsList rs l
answered_list rs l is = list_of_spelled rs l is

pub answered_fault : (rs : List Record) (f : CueFault) → Answers (spelled_list rs) (Err f) → FaultsFirst rs f
answered_fault rs (fault.Memory error) is = tt
answered_fault rs (fault.Limit which) is = list_of_fault rs (fault.Limit which) is
answered_fault rs (fault.Malformed number place why) is = list_of_fault rs (fault.Malformed number place why) is

-- the same for the clauses of a function that answers
pub says_spelled : (rs : List Record) (r : Result Listing CueFault) → Answers (spelled_list rs) r → IfOk r (λ l. SpellsList rs l)
says_spelled rs (Ok l) is = answered_list rs l is
says_spelled rs (Err f) is = tt

pub says_fault : (rs : List Record) (r : Result Listing CueFault) → Answers (spelled_list rs) r → IfErr r (FaultsFirst rs)
says_fault rs (Ok l) is = tt
says_fault rs (Err f) is = answered_fault rs f is
