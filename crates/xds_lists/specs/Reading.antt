-- Between crates: the program's answer stands on none of these definitions.
-- Reading a list of packets record by record: the packets that they spell, or the first record that offends.
use Rattle.std.specs.Prelude.{◌≡◌, ⊤, ℕ, ◌+◌, List, [], ◌∷◌, ◌++◌, Result, Ok, Err}
use Rattle.cue_form.specs.RecordJudgements.{judged_value, number}
use Rattle.cue_form.specs.Records.{Record, field}
use Rattle.cue_form.specs.declared.offence.Offence.{Offence}
use Rattle.cue_form.specs.declared.offence.Offence.TheVariants as offence
use Rattle.xds_lists.specs.Form.{last_frame, packet_judgements}
use Rattle.xds_lists.specs.declared.fault.XdsFault.{XdsFault}
use Rattle.xds_lists.specs.declared.fault.XdsFault.TheVariants as fault
use Rattle.xds_packets.specs.Sending.{Listed}

-- the packet that the fields of a record have
abbrev pub packet_of_fields : Record → Listed
packet_of_fields r = record {
  from = number r 1 0 last_frame;
  packet = record { class = number r 2 1 7; kind = number r 3 1 127; text = field r 4 };
}

-- the packet of a record, unless one of its judgements isn't good
abbrev pub listed_of : Record → Result Listed Offence
listed_of r = judged_value (packet_judgements r) (packet_of_fields r)

-- the record that offends, by its number from 1, and its offence
pub record Offending : Type 0 where
  pub number : ℕ
  pub offence : Offence

-- what goes on from the list with the record of this number, unless that offends
abbrev pub read_on : List Listed → ℕ → Result Listed Offence → (List Listed → Result (List Listed) Offending) → Result (List Listed) Offending
read_on before number (Ok listed) rest = rest (before ++ listed ∷ [])
read_on before number (Err offence) rest = Err (record { number = number; offence = offence })

-- the list that these records give after those before, the first of them of this number
abbrev pub read_from : List Listed → ℕ → List Record → Result (List Listed) Offending
read_from before number [] = Ok before
read_from before number (r ∷ rs) = read_on before number (listed_of r) (λ more. read_from more (number + 1) rs)

abbrev pub read_packets : List Record → Result (List Listed) Offending
read_packets records = read_from [] 1 records

-- the list that is due, or the fault; 'out of memory' may be answered in their place
abbrev pub Answers : Result (List Listed) Offending → Result (List Listed) XdsFault → Type 0
Answers due (Ok listed) = due ≡ Ok listed
Answers due (Err (fault.Memory error)) = ⊤
Answers due (Err (fault.Malformed number place why)) = due ≡ Err (record { number = number; offence = offence.At place why })
