-- Between crates: the program's answer stands on none of these definitions.
-- What is judged of a record, in the order in which it is judged: each judgement has the offence that comes if it isn't
-- good.
use Rattle.std.specs.Prelude.{ℕ, ◌+◌, ◌==◌, Bool, nat_lt, if◌then◌else◌, List, [], ◌∷◌, length, Option, Some, None, is_some, unwrap_or, Result, Ok, Err}
use Rattle.cc_base.specs.declared.why.Why.{Why}
use Rattle.cc_base.specs.declared.why.Why.TheVariants as why
use Rattle.cue_form.specs.Numbers.{number_within}
use Rattle.cue_form.specs.Records.{Record, field}
use Rattle.cue_form.specs.declared.offence.Offence.{Offence}
use Rattle.cue_form.specs.declared.offence.Offence.TheVariants as offence

-- whether something is good, and what offends where it isn't
pub record Judgement : Type 0 where
  pub good : Bool
  pub offence : Offence

-- of a field, counted from 1
abbrev pub judge : Bool → ℕ → Why → Judgement
judge good place why = record { good = good; offence = offence.At place why }

-- the field at which a record of another number of fields than `count` offends: one past the last that it has, or that belongs
abbrev pub count_place : ℕ → ℕ → ℕ
count_place count given = if nat_lt given count then given + 1 else count + 1

-- of the number of fields: too few offend one past the last, too many one past the last that belongs
abbrev pub count_judgement : Record → ℕ → Judgement
count_judgement r count = judge (length r == count) (count_place count (length r)) why.Field

-- a number in its range, at a place counted from 0
abbrev pub within : Record → ℕ → ℕ → ℕ → Judgement
within r place low high = judge (is_some (number_within low high (field r place))) (place + 1) why.Field

-- the first that isn't good
abbrev pub first_offence : List Judgement → Option Offence
first_offence [] = None
first_offence (j ∷ js) = if j.good then first_offence js else Some j.offence

-- what goes on from a value, unless there was a fault
abbrev pub on_ok : {A B E : Type 0} → Result A E → (A → Result B E) → Result B E
on_ok (Ok value) rest = rest value
on_ok (Err error) rest = Err error

-- the value of what has no offence
abbrev pub unless : {A : Type 0} → Option Offence → A → Result A Offence
unless None value = Ok value
unless (Some offence) value = Err offence

-- the value of a record, unless one of its judgements isn't good
abbrev pub judged_value : {A : Type 0} → List Judgement → A → Result A Offence
judged_value js value = unless (first_offence js) value

-- a number in its range
abbrev pub number : Record → ℕ → ℕ → ℕ → ℕ
number r place low high = unwrap_or (number_within low high (field r place)) 0
