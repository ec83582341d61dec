-- Between crates: the program's answer stands on none of these definitions.
-- Words that are verified.
use Rattle.std.specs.Prelude.{◌≡◌, ◌≤◌, ℕ, List, length, None}
use Rattle.cc_verifier.specs.Verifiers.{HasVerified, finding_of, list_of, verified_frames}
use Rattle.cc_verifier.specs.declared.verifier.Verifier.{Verifier}
use Rattle.command_base.specs.declared.status.Status.{Status}
use Rattle.command_base.specs.declared.status.Status.TheVariants as status
use Rattle.cue_types.specs.Listing.{Listing}
use Rattle.words_files.specs.Offences.{IsUnoffending}
use Rattle.words_reading.specs.CaptionChannel.{caption_channel}
use Rattle.verify_commands.specs.VerifyVerdict.{FindsNothing}
use Rattle.verify_commands.specs.declared.verifying.Found.{Found}
use Rattle.verify_commands.specs.declared.verifying.Verifying.{Verifying}

-- the status of a run that stopped for a finding
abbrev pub found_status : Found → Status
found_status found = status.Differs found.finding

-- a verifier against a list judged these bytes, none of whose words offends, and found nothing
pub record HasJudged (list : Listing) (bytes : List ℕ) (verifier : Verifier) : Type 0 where
  pub verified : HasVerified bytes verifier
  pub list_is : list_of verifier ≡ list
  pub nothing : finding_of verifier ≡ None
  pub unoffending : IsUnoffending caption_channel bytes
  pub few : verified_frames verifier ≤ length bytes

-- and nothing was put of them
pub record HasJudgedSo (list : Listing) (bytes text : List ℕ) (verifying : Verifying) : Type 0 where
  pub judged : HasJudged list bytes verifying.verifier
  pub says : FindsNothing list bytes text
