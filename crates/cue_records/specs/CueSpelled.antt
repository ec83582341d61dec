-- Between crates: the program's answer stands on none of these definitions.
-- What one cue's records give by themselves, in the words in which lists are spelled.
use Rattle.std.specs.Prelude.{◌≡◌, ℕ, ◌+◌, List, ◌∷◌, Ok, Err}
use Rattle.cc_base.specs.declared.why.Why.{Why}
use Rattle.cue_form.specs.FirstFault.{IsFirstFault}
use Rattle.cue_form.specs.Records.{Record}
use Rattle.cue_form.specs.Spelling.{SpellsList, head_record}
use Rattle.cue_form.specs.declared.fault.CueFault.TheVariants as fault
use Rattle.cue_types.specs.Listing.{Listing}
use Rattle.cue_types.specs.declared.head.Head.{Head}
use Rattle.cue_records.specs.CueApart.{IsHead, read_apart}

-- the record of the head and those that are read apart spell the list that they give
abbrev pub ApartIsSpelled : Type 0
ApartIsSpelled = (head : Head) (number : ℕ) (records : List Record) (list : Listing) → IsHead head
    → read_apart head number records ≡ Ok list → SpellsList (head_record head ∷ records) list

-- or they have their first fault at the same record and field
abbrev pub ApartIsFaulty : Type 0
ApartIsFaulty = (head : Head) (number : ℕ) (records : List Record) (rec place : ℕ) (why : Why) → IsHead head
    → read_apart head number records ≡ Err (fault.Malformed rec place why)
    → (k : ℕ) × (rec ≡ number + k) × IsFirstFault (head_record head ∷ records) (fault.Malformed (k + 2) place why)
