-- Lists of packets that are accepted or refused.
use Rattle.std.proofs.Common.{◌≡◌, ◌≤◌, ℕ, List, All, length, Result, Ok, Err, refl, ap, arith}
use Rattle.std.specs.Prelude.{IfOk}
use Rattle.cc_base.specs.Streams.{whole_limit}
use Rattle.cc_base.specs.declared.limit_of.LimitOf.TheVariants as limit
use Rattle.cc_base.specs.declared.why.Why.{Why}
use Rattle.command_base.proofs.WholeInputLemmas.{AreRefusals}
use Rattle.command_base.specs.WholeInput.{JudgesInput}
use Rattle.command_base.specs.declared.status.Place.TheVariants.{Field}
use Rattle.command_base.specs.declared.status.Status.{Status}
use Rattle.command_base.specs.declared.status.Status.TheVariants as status
use Rattle.cue_form.specs.Records.{records_of}
use Rattle.cue_form.specs.declared.offence.Offence.TheVariants as offence
use Rattle.xds_commands.specs.PacketLists.{IsGoodPackets, IsRefusedPackets, packets_status}
use Rattle.xds_lists.proofs.ReadLemmas.{first_fault_is_answered, spelled_is_read}
use Rattle.xds_lists.specs.FirstFault.{FaultsFirst}
use Rattle.xds_lists.specs.Form.{IsListed}
use Rattle.xds_lists.specs.Reading.{Offending, read_packets}
use Rattle.xds_lists.specs.declared.fault.XdsFault.{XdsFault}
use Rattle.xds_lists.specs.declared.fault.XdsFault.TheVariants as fault
use Rattle.xds_packets.specs.Sending.{Listed}

-- what is at fault is refused with the fault's status
pub packets_refused : (bytes : List ℕ) (f : XdsFault) → length bytes ≤ whole_limit → FaultsFirst (records_of bytes) f
    → JudgesInput IsGoodPackets IsRefusedPackets bytes (Err (packets_status f))
packets_refused bytes (fault.Memory error) within first = tt
packets_refused bytes (fault.Malformed rec field why) within first = (within, first)

-- what is refused is refused with a status of a refusal
pub packet_refusals : AreRefusals IsRefusedPackets
packet_refusals bytes status.Ok refused = absurd refused
packet_refusals bytes status.Usage refused = absurd refused
packet_refusals bytes status.ReadFault refused = absurd refused
packet_refusals bytes status.WriteFault refused = absurd refused
packet_refusals bytes _ refused = tt

-- packets that are judged to be good are in their ranges
pub listed_of_good : (bytes : List ℕ) (answer : Result (List Listed) Status) → JudgesInput IsGoodPackets IsRefusedPackets bytes answer → IfOk answer (λ packets. All IsListed packets)
listed_of_good bytes (Ok listed) good = good.spelled.in_range
listed_of_good bytes (Err refusal) good = tt

-- bytes spell one list of packets
pub packets_once : (bytes : List ℕ) (a b : List Listed) → IsGoodPackets bytes a → IsGoodPackets bytes b → a ≡ b
packets_once bytes a b good_a good_b =
    let one : read_packets (records_of bytes) ≡ Ok a = spelled_is_read (records_of bytes) a good_a.spelled in
    let two : read_packets (records_of bytes) ≡ Ok b = spelled_is_read (records_of bytes) b good_b.spelled in
    cc

-- those that spell one have no fault
spelled_faultless : (bytes : List ℕ) (listed : List Listed) (rec field : ℕ) (why : Why) → IsGoodPackets bytes listed → FaultsFirst (records_of bytes) (fault.Malformed rec field why) → ⊥
spelled_faultless bytes listed rec field why good faulty =
    let one : read_packets (records_of bytes) ≡ Ok listed = spelled_is_read (records_of bytes) listed good.spelled in
    let wrong : Offending = record { number = rec; offence = offence.At field why } in
    let two : read_packets (records_of bytes) ≡ Err wrong = first_fault_is_answered (records_of bytes) (fault.Malformed rec field why) faulty in
    cc

pub good_not_refused : (bytes : List ℕ) (listed : List Listed) (answer : Status) → IsGoodPackets bytes listed → IsRefusedPackets bytes answer → ⊥
good_not_refused bytes listed (status.Limit limit.Bytes) good long = let within = good.within in omega arith
good_not_refused bytes listed (status.Malformed (Field rec field) why) good faulty = spelled_faultless bytes listed rec field why good faulty.1
good_not_refused bytes listed _ good refused = refused

-- bytes that are refused are refused with one status
one_fault : (bytes : List ℕ) (rec field other place : ℕ) (why reason : Why) → FaultsFirst (records_of bytes) (fault.Malformed rec field why) → FaultsFirst (records_of bytes) (fault.Malformed other place reason)
    → status.Malformed (Field rec field) why ≡ status.Malformed (Field other place) reason
one_fault bytes rec field other place why reason first second =
    let a : Offending = record { number = rec; offence = offence.At field why } in
    let b : Offending = record { number = other; offence = offence.At place reason } in
    let one : read_packets (records_of bytes) ≡ Err a = first_fault_is_answered (records_of bytes) (fault.Malformed rec field why) first in
    let two : read_packets (records_of bytes) ≡ Err b = first_fault_is_answered (records_of bytes) (fault.Malformed other place reason) second in
    let same : a ≡ b = cc in
    let number : rec ≡ other = ap (λ (o : Offending). o.number) same in
    let offences : offence.At field why ≡ offence.At place reason = ap (λ (o : Offending). o.offence) same in
    cc

pub packets_refused_once : (bytes : List ℕ) (one other : Status) → IsRefusedPackets bytes one → IsRefusedPackets bytes other → one ≡ other
packets_refused_once bytes (status.Limit limit.Bytes) (status.Limit limit.Bytes) long again = refl
packets_refused_once bytes (status.Limit limit.Bytes) (status.Malformed (Field rec field) why) long faulty = absurd (let within = faulty.0 in omega arith)
packets_refused_once bytes (status.Limit limit.Bytes) _ long refused = absurd refused
packets_refused_once bytes (status.Malformed (Field rec field) why) (status.Limit limit.Bytes) faulty long = absurd (let within = faulty.0 in omega arith)
packets_refused_once bytes (status.Malformed (Field rec field) why) (status.Malformed (Field other place) reason) faulty again = one_fault bytes rec field other place why reason faulty.1 again.1
packets_refused_once bytes (status.Malformed (Field rec field) why) _ faulty refused = absurd refused
packets_refused_once bytes _ other refused again = absurd refused
