-- Between crates: the program's answer stands on none of these definitions.
-- How an answer agrees with what is due, where memory may run out.
use Rattle.std.specs.Prelude.{◌≡◌, ⊤, Result, Ok, Err}
use Rattle.cue_form.specs.Begun.{Begun}
use Rattle.cue_types.specs.Listing.{Listing}
use Rattle.cue_form.specs.declared.fault.CueFault.{CueFault}
use Rattle.cue_form.specs.declared.fault.CueFault.TheVariants as fault
use Rattle.cue_form.specs.declared.offence.Offence.{Offence}
use Rattle.cue_form.specs.declared.offence.Offence.TheVariants as offence

-- the offence that is due; 'out of memory' may be answered in its place
abbrev pub AnswersOffence : {A : Type 0} → Result A Offence → Offence → Type 0
AnswersOffence due (offence.Memory error) = ⊤
AnswersOffence due (offence.Limit which) = due ≡ Err (offence.Limit which)
AnswersOffence due (offence.At place why) = due ≡ Err (offence.At place why)

-- the value that is due, or the offence
abbrev pub Gives : {A : Type 0} → Result A Offence → Result A Offence → Type 0
Gives due (Ok value) = due ≡ Ok value
Gives due (Err offence) = AnswersOffence due offence

-- the begun list that is due, or the offence
abbrev pub GivesBegun : {A : Type 0} → Result Begun Offence → Result A Offence → Begun → Type 0
GivesBegun due (Ok _) new = due ≡ Ok new
GivesBegun due (Err offence) new = AnswersOffence due offence

-- the cue list that is due, or the fault; 'out of memory' may be answered in their place
abbrev pub Answers : Result Listing CueFault → Result Listing CueFault → Type 0
Answers due (Ok list) = due ≡ Ok list
Answers due (Err (fault.Memory error)) = ⊤
Answers due (Err (fault.Limit which)) = due ≡ Err (fault.Limit which)
Answers due (Err (fault.Malformed number place why)) = due ≡ Err (fault.Malformed number place why)
