-- A list whose form is at fault is refused with that fault's status.
use Rattle.std.proofs.Common.{◌≢◌, ◌≤◌, ℕ, List, length, Ok, Err}
use Rattle.std.specs.Prelude.{IfOk, Result}
use Rattle.cc_base.specs.declared.limit_of.LimitOf.TheVariants as limit
use Rattle.cue_lists.specs.Answers.{Answers}
use Rattle.cue_lists.specs.FirstFault.{FaultsFirst}
use Rattle.cue_lists.specs.Listing.{Listing}
use Rattle.cue_lists.specs.Reading.{read_list}
use Rattle.cue_lists.specs.Records.{records_of}
use Rattle.cue_lists.specs.Rules.{IsRuled}
use Rattle.cue_lists.specs.declared.fault.CueFault.{CueFault}
use Rattle.cue_lists.specs.declared.fault.CueFault.TheVariants as fault
use Rattle.cue_lists.proofs.ListLimits.{limit_of_records}
use Rattle.cc_base.specs.Streams.{whole_limit}
use Rattle.cue_list_commands.specs.Accepted.{IsGoodList, IsRefused, IsRefusedList}
use Rattle.command_base.proofs.WholeInputLemmas.{AreRefusals}
use Rattle.command_base.specs.WholeInput.{JudgesInput}
use Rattle.cue_list_commands.specs.Reads.{IsProgrammeOf, form_status}
use Rattle.command_base.specs.declared.status.Status.{Status}
use Rattle.command_base.specs.declared.status.Status.TheVariants as status

-- a list whose form is at fault is refused with the fault's status
pub form_refused : (bytes : List ℕ) (f : CueFault) → length bytes ≤ whole_limit → Answers (read_list bytes) (Err f) → FaultsFirst (records_of bytes) f
    → JudgesInput IsGoodList IsRefusedList bytes (Err (form_status f))
form_refused bytes (fault.Memory error) within due first = tt
form_refused bytes (fault.Limit limit.Bytes) within due first = absurd (limit_of_records bytes limit.Bytes due)
form_refused bytes (fault.Limit limit.Frames) within due first = record { within = within; first = first }
form_refused bytes (fault.Limit limit.Cues) within due first = record { within = within; first = first }
form_refused bytes (fault.Limit limit.Packet) within due first = absurd (limit_of_records bytes limit.Packet due)
form_refused bytes (fault.Limit limit.Day) within due first = absurd (limit_of_records bytes limit.Day due)
form_refused bytes (fault.Malformed rec field why) within due first = record { within = within; first = first }

-- what is refused where room isn't asked is refused
pub refused_list : (bytes : List ℕ) (answer : Status) → IsRefusedList bytes answer → IsRefused bytes answer
refused_list bytes (status.NoRoom cue) refused = absurd refused
refused_list bytes _ refused = refused

-- a list that isn't good has no programme
pub no_programme : (bytes : List ℕ) (s : Status) → JudgesInput IsGoodList IsRefusedList bytes (Err s) → JudgesInput IsProgrammeOf IsRefused bytes (Err s)
no_programme bytes status.Memory judged = tt
no_programme bytes (status.NoRoom cue) judged = absurd judged
no_programme bytes _ judged = judged

-- what is refused is refused with a status of a refusal
pub are_refusals : AreRefusals IsRefused
are_refusals bytes status.Ok refused = absurd refused
are_refusals bytes status.Usage refused = absurd refused
are_refusals bytes status.ReadFault refused = absurd refused
are_refusals bytes status.WriteFault refused = absurd refused
are_refusals bytes _ refused = tt

pub list_refusals : AreRefusals IsRefusedList
list_refusals bytes answer refused = are_refusals bytes answer (refused_list bytes answer refused)

-- what was read is no fault
pub ok_is_no_fault : {A E : Type 0} (value : A) (error : E) → Ok value ≢ Err error
ok_is_no_fault value error same = cc

-- a list that is judged to be good keeps the rules
pub ruled_of : (bytes : List ℕ) (answer : Result Listing Status) → JudgesInput IsGoodList IsRefusedList bytes answer → IfOk answer (λ list. IsRuled list)
ruled_of bytes (Ok list) good = good.ruled
ruled_of bytes (Err refusal) good = tt
