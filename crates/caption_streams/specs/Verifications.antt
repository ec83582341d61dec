-- Believed: the library's answers stand on these definitions.
-- What a verifier is after the bytes that it was fed, and its verdict on them.
use Rattle.std.specs.Prelude.{◌≡◌, ◌≤◌, ℕ, List, [], ◌++◌, take, Option, None, Some, Result, Ok, Err}
use Rattle.cc_base.specs.declared.refusal.Refusal.{Refusal}
use Rattle.cc_receiver.specs.declared.receiver.Fed.{Fed}
use Rattle.cc_verifier.specs.Verifiers.{FeedsOn, HasVerified, JudgesFile, finding_of, list_of, verified_frames}
use Rattle.cc_verifier.specs.declared.verifier.Verdict.TheVariants as verdict
use Rattle.cc_verifier.specs.declared.verifier.Verifier.{Verifier}
use Rattle.command_base.specs.declared.status.Place.TheVariants.{Byte}
use Rattle.command_base.specs.declared.status.Status.{Status}
use Rattle.command_base.specs.declared.status.Status.TheVariants as status
use Rattle.cue_list_commands.specs.Accepted.{IsGoodList}
use Rattle.cue_types.specs.Listing.{Listing}
use Rattle.findings.specs.declared.finding.Finding.{Finding}
use Rattle.caption_streams.specs.declared.fault.FeedFault.{FeedFault}
use Rattle.caption_streams.specs.declared.fault.FeedFault.TheVariants as fault
use Rattle.caption_streams.specs.declared.verifying.Verifying.{Verifying}

-- the verifier, and what it found
abbrev pub verifier_of : Verifying → Verifier
verifier_of verifying = verifying.verifier

abbrev pub finding_in : Verifying → Option Finding
finding_in verifying = finding_of verifying.verifier

-- a verifier against the list of these bytes, which keeps the rules, that was fed nothing
pub record BeginsVerifying (bytes : List ℕ) (verifying : Verifying) : Type 0 where
  pub list : Listing
  pub good : IsGoodList bytes list
  pub list_is : list_of verifying.verifier ≡ list
  pub verified : HasVerified [] verifying.verifier

-- it verified the bytes that were read, or all of them, where a word is refused
pub record VerifiesOn (before bytes : List ℕ) (old new : Verifier) (more : List ℕ) (answer : Result Fed Refusal) : Type 0 where
  pub feeds : FeedsOn before bytes old new answer
  pub verified : HasVerified (before ++ more) new

-- what it answers: nothing is read where something was found, or where no more frames may be counted
abbrev pub AnswersVerified : List ℕ → List ℕ → Verifier → Verifier → Result Fed FeedFault → Type 0
AnswersVerified before bytes old new (Ok fed) = (finding_of old ≡ None) × VerifiesOn before bytes old new (take fed.used bytes) (Ok fed)
AnswersVerified before bytes old new (Err (fault.Refused refusal)) = (finding_of old ≡ None) × VerifiesOn before bytes old new bytes (Err refusal)
AnswersVerified before bytes old new (Err (fault.Found finding)) = (new ≡ old) × (finding_of old ≡ Some finding)
AnswersVerified before bytes old new (Err fault.TooManyFrames) = (finding_of old ≡ None) × (new ≡ old) × (4294967295 ≤ verified_frames old)

-- this status is the verdict on the bytes that were fed, if they end here
abbrev pub IsVerdictOn : List ℕ → Verifier → Status → Type 0
IsVerdictOn bytes verifier status.Ok = JudgesFile (list_of verifier) bytes (Ok verdict.Ok)
IsVerdictOn bytes verifier (status.Differs finding) = JudgesFile (list_of verifier) bytes (Ok (verdict.Differs finding))
IsVerdictOn bytes verifier (status.Short count) = JudgesFile (list_of verifier) bytes (Ok (verdict.Short count))
IsVerdictOn bytes verifier (status.Malformed (Byte place) why) = JudgesFile (list_of verifier) bytes (Err (record { place = place; why = why }))
IsVerdictOn bytes verifier _ = ⊥
