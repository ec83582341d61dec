-- Believed: the library's answers stand on these definitions.
-- Verifiers, as C holds them.
use Rattle.std.specs.Prelude.{◌≡◌, ◌⊎◌, ℕ, List, Option, Some, None, Result, Ok, Bool, true, is_some}
use Rattle.caption_streams.specs.Verifications.{AnswersVerified, BeginsVerifying, IsVerdictOn, finding_in, verifier_of}
use Rattle.caption_streams.specs.declared.fault.FeedFault.{FeedFault}
use Rattle.caption_streams.specs.declared.verifying.Verifying.{Verifying}
use Rattle.cc_receiver.specs.declared.receiver.Fed.{Fed}
use Rattle.command_base.specs.declared.status.Status.{Status}
use Rattle.command_base.specs.declared.status.Status.TheVariants as status
use Rattle.caption_streams.specs.Accepted.{IsRefusedList}
use Rattle.reported_runs.specs.Reports.{report_of}
use Rattle.reported_runs.specs.declared.report.Report.{Report}
use Rattle.ccsuite_c.specs.Codes.{found_code}
use Rattle.ccsuite_c.specs.Told.{TellsFed, ended_number, read_so}
use Rattle.ccsuite_c.specs.declared.state.State.{State}
use Rattle.ccsuite_c.specs.declared.state.State.TheVariants as held
use Rattle.ccsuite_c.specs.declared.told.FedBytes.{FedBytes}

-- a list of these bytes gives no verifier, for this cause
abbrev pub RefusesList : List ℕ → Status → Type 0
RefusesList bytes answer = (answer ≡ status.Memory) ⊎ IsRefusedList bytes answer

-- how opening one ended
abbrev pub OpenedVerifier : List ℕ → Option State → Report → Type 0
OpenedVerifier bytes (Some (held.Verifying verifying)) report = BeginsVerifying bytes verifying × (report ≡ report_of status.Ok 0)
OpenedVerifier bytes None report = (why : Status) × RefusesList bytes why × (report ≡ report_of why 0)
OpenedVerifier bytes _ report = ⊥

-- what C learns of words that were fed, and also whether they end a frame at which something is found
abbrev pub TellsVerified : Result Fed FeedFault → Bool → ℕ → FedBytes → Type 0
TellsVerified (Ok fed) true code told = (code ≡ found_code) × (told ≡ read_so fed.used (ended_number fed.ended))
TellsVerified answer found code told = TellsFed answer code told

-- words were fed, and C learns what came of them
pub record VerifiesMore (before words : List ℕ) (old new : Verifying) (code : ℕ) (told : FedBytes) : Type 0 where
  pub answer : Result Fed FeedFault
  pub verified : AnswersVerified before words (verifier_of old) (verifier_of new) answer
  pub tells : TellsVerified answer (is_some (finding_in new)) code told

abbrev pub VerifiesAnswer : List ℕ → List ℕ → Verifying → ℕ → FedBytes → Option State → Type 0
VerifiesAnswer before words old code told (Some (held.Verifying new)) = VerifiesMore before words old new code told
VerifiesAnswer before words old code told _ = ⊥

-- the report is the verdict's
pub record VerdictAnswer (bytes : List ℕ) (verifying : Verifying) (code : ℕ) (report : Report) : Type 0 where
  pub verdict : Status
  pub is : IsVerdictOn bytes (verifier_of verifying) verdict
  pub told : report ≡ report_of verdict 0
  pub code_is : code ≡ report.status
