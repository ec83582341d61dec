-- Believed in part: the library's answers stand on some of these definitions.
-- What the check of the services of DTVCC knows, and what it finds (CTA-708-E, caption windows).
use Rattle.std.specs.Prelude.{◌≡◌, ◌<◌, ◌≤◌, ℕ, true, List, Option, Some, None}
use Rattle.cue_types.specs.declared.cue.Cue.{Cue}
use Rattle.dtvcc_services.specs.Numbers.{IsService}
use Rattle.cc_verifier.specs.WindowCursors.{AreAt}
use Rattle.cc_verifier.specs.Differing.{AllSeenWindows, ShowsItsWindows, ShowsOtherWindow}
use Rattle.cc_verifier.specs.declared.service_checks.ServiceChecks.{ServiceChecks}

-- the first service of which a window is seen otherwise than it is authored, or that there is none
pub record IsFirstService (cues : List Cue) (frame : ℕ) (windows : AllSeenWindows) (service : ℕ) : Type 0 where
  pub is : IsService service
  pub shows : ShowsOtherWindow cues frame windows service
  pub first : (other : ℕ) → 1 ≤ other → other < service → ShowsItsWindows cues frame windows other

abbrev pub IsFirstOtherService : List Cue → ℕ → AllSeenWindows → Option ℕ → Type 0
IsFirstOtherService cues frame windows None = (service : ℕ) → IsService service → ShowsItsWindows cues frame windows service
IsFirstOtherService cues frame windows (Some service) = IsFirstService cues frame windows service

-- the check stands at a frame
abbrev pub StandAt : List Cue → ℕ → ServiceChecks → Type 0
StandAt cues frame checks = AreAt cues frame checks.cursors

-- where it says that all agree, what was seen at the frame before is what is authored at this one
abbrev pub KnowServices : List Cue → ℕ → AllSeenWindows → ServiceChecks → Type 0
KnowServices cues frame former checks = checks.agrees ≡ true → (service : ℕ) → IsService service → ShowsItsWindows cues frame former service
