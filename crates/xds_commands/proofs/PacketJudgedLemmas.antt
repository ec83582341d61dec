-- Every list of packets is good or refused.
use Rattle.std.proofs.Common.{◌≡◌, ◌∙◌, ◌+◌, ◌≤◌, ◌⊎◌, ◌++◌, ◌∷◌, ap, inl, inr, length, refl, sym, true, false, ℕ, Bool, List, [], Option, Some, None, Result, Ok, Err}
use Rattle.std.specs.Prelude.{if◌then◌else◌}
use Rattle.std.proofs.lemmas.Bool.{cases_lt}
use Rattle.cc_base.specs.Streams.{whole_limit}
use Rattle.cc_base.specs.declared.limit_of.LimitOf.TheVariants as limit
use Rattle.cc_base.specs.declared.why.Why.{Why}
use Rattle.cc_base.specs.declared.why.Why.TheVariants as why
use Rattle.command_base.specs.declared.status.Place.TheVariants.{Field}
use Rattle.command_base.specs.declared.status.Status.{Status}
use Rattle.command_base.specs.declared.status.Status.TheVariants as status
use Rattle.cue_form.specs.RecordJudgements.{Judgement, count_place, first_offence}
use Rattle.cue_form.specs.Records.{Record, records_of}
use Rattle.cue_form.specs.declared.offence.Offence.{Offence}
use Rattle.cue_form.specs.declared.offence.Offence.TheVariants as offence
use Rattle.xds_commands.specs.PacketLists.{IsGoodPackets, IsRefusedPackets}
use Rattle.xds_lists.proofs.ReadLemmas.{fault_of_read, list_of_read}
use Rattle.xds_lists.specs.Form.{packet_judgements}
use Rattle.xds_lists.specs.Reading.{Offending, packet_of_fields, read_from, read_packets}
use Rattle.xds_packets.specs.Sending.{Listed}

-- an offence at a field
abbrev IsAt : Offence → Type 0
IsAt found = (place : ℕ) × (reason : Why) × (found ≡ offence.At place reason)

abbrev AreAt : List Judgement → Type 0
AreAt [] = Unit {0}
AreAt (j ∷ js) = IsAt j.offence × AreAt js

first_by : (good : Bool) (own found : Offence) (behind : Option Offence) → IsAt own → (behind ≡ Some found → IsAt found) → (if good then behind else Some own) ≡ Some found → IsAt found
first_by true own found behind at on is = on is
first_by false own found behind (place, reason, at) on is = let same : own ≡ found = cc in (place, reason, sym same ∙ at)

first_at : (js : List Judgement) (found : Offence) → AreAt js → first_offence js ≡ Some found → IsAt found
first_at [] found at is = let none : None ≡ Some found = is in absurd cc
first_at (j ∷ js) found (one, more) is = first_by j.good j.offence found (first_offence js) one (first_at js found more) is

-- a record of packets offends at a field, or not
packet_at : (r : Record) → AreAt (packet_judgements r)
packet_at r =
    ((1, why.Field, refl), ((count_place 5 (length r), why.Field, refl), ((2, why.Field, refl), ((3, why.Field, refl), ((4, why.Field, refl), ((5, why.Field, refl), tt))))))

on_found : {P : Type 0} (o : Option Offence) → (o ≡ None → P) → ((found : Offence) → o ≡ Some found → P) → P
on_found None good bad = good refl
on_found (Some o) good bad = bad o refl

read_at : (records : List Record) (before : List Listed) (number : ℕ) (wrong : Offending) → read_from before number records ≡ Err wrong → IsAt wrong.offence
read_at [] before number wrong is = cc
read_at (r ∷ rs) before number wrong is = on_found (first_offence (packet_judgements r))
    (λ good. read_at rs (before ++ packet_of_fields r ∷ []) (number + 1) wrong (rw good at is))
    (λ found bad.
    let q = rw bad at is in
    let same : record { number = number; offence = found } ≡ wrong = cc in
    let (place, reason, at_field) = first_at (packet_judgements r) found (packet_at r) bad in
    (place, reason, sym (ap (λ (o : Offending). o.offence) same) ∙ at_field))

by_read : (bytes : List ℕ) → length bytes ≤ whole_limit → (found : Result (List Listed) Offending) → read_packets (records_of bytes) ≡ found
    → ((listed : List Listed) × IsGoodPackets bytes listed) ⊎ ((answer : Status) × IsRefusedPackets bytes answer)
by_read bytes within (Ok listed) is =
    let spelled = list_of_read (records_of bytes) listed is in
    inl (listed, record { within = within; spelled = spelled })
by_read bytes within (Err wrong) is =
    let (place, reason, at_field) = read_at (records_of bytes) [] 1 wrong is in
    let read : read_packets (records_of bytes) ≡ Err (record { number = wrong.number; offence = offence.At place reason }) =
    is ∙ ap (λ (o : Offence). let it : Offending = record { number = wrong.number; offence = o } in Err it) at_field in
    inr (status.Malformed (Field wrong.number place) reason, (within, fault_of_read (records_of bytes) wrong.number place reason read))

pub packets_judged : (bytes : List ℕ) → ((listed : List Listed) × IsGoodPackets bytes listed) ⊎ ((answer : Status) × IsRefusedPackets bytes answer)
packets_judged bytes = elim (cases_lt whole_limit (length bytes)) [
  | inl long ↦ inr (status.Limit limit.Bytes, long)
  | inr within ↦ by_read bytes within (read_packets (records_of bytes)) refl
]
