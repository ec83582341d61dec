-- What the checks find of a list's cues at a frame, and what they know then.
use Rattle.std.proofs.Common.{◌≡◌, ℕ, Bool, List, subst, sym}
use Rattle.std.specs.Prelude.{IsTrue, Option}
use Rattle.cue_types.specs.declared.cue.Cue.{Cue}
use Rattle.line21_codes.specs.declared.channels.Chan.{Chan}
use Rattle.line21_screen.specs.Grid.{Grid}
use Rattle.cc_verifier.specs.Channels.{IsFirstOther, KnowAll, LeaveGrids}
use Rattle.cc_verifier.specs.Differing.{AllSeenWindows}
use Rattle.cc_verifier.specs.Services.{IsFirstOtherService, KnowServices, StandAt}
use Rattle.cc_verifier.specs.declared.channel_checks.ChannelChecks.{ChannelChecks}
use Rattle.cc_verifier.specs.declared.service_checks.ServiceChecks.{ServiceChecks}

-- an idle frame leaves it
pub leave_idle : (is_idle : Bool) (former now : Chan → Grid) → (IsTrue is_idle → (channel : Chan) → now channel ≡ former channel) → LeaveGrids is_idle former now
leave_idle is_idle former now says channel is = says is channel

-- the cues of a list, and the number of a frame, by two names
pub channels_before : (cues own : List Cue) (frame at : ℕ) (screens : Chan → Grid) (checks : ChannelChecks) → own ≡ cues → frame ≡ at
    → KnowAll cues at screens checks → KnowAll own frame screens checks
channels_before cues own frame at screens checks same is knows =
    subst (λ (cs : List Cue). KnowAll cs frame screens checks) (sym same) (subst (λ n. KnowAll cues n screens checks) (sym is) knows)

pub channels_found : (cues own : List Cue) (frame at : ℕ) (now screens : Chan → Grid) (first : Option Chan) → own ≡ cues → frame ≡ at → now ≡ screens
    → IsFirstOther own frame now first → IsFirstOther cues at screens first
channels_found cues own frame at now screens first same is shows found =
    subst (λ (g : Chan → Grid). IsFirstOther cues at g first) shows
    (subst (λ n. IsFirstOther cues n now first) is (subst (λ (cs : List Cue). IsFirstOther cs frame now first) same found))

pub channels_know : (cues own : List Cue) (frame at : ℕ) (now screens : Chan → Grid) (checks : ChannelChecks) → own ≡ cues → frame ≡ at → now ≡ screens
    → KnowAll own frame now checks → KnowAll cues at screens checks
channels_know cues own frame at now screens checks same is shows knows =
    subst (λ (g : Chan → Grid). KnowAll cues at g checks) shows
    (subst (λ n. KnowAll cues n now checks) is (subst (λ (cs : List Cue). KnowAll cs frame now checks) same knows))

pub services_before : (cues own : List Cue) (frame at : ℕ) (windows : AllSeenWindows) (checks : ServiceChecks) → own ≡ cues → frame ≡ at
    → KnowServices cues at windows checks → KnowServices own frame windows checks
services_before cues own frame at windows checks same is knows =
    subst (λ (cs : List Cue). KnowServices cs frame windows checks) (sym same) (subst (λ n. KnowServices cues n windows checks) (sym is) knows)

pub services_found : (cues own : List Cue) (frame at : ℕ) (windows : AllSeenWindows) (first : Option ℕ) → own ≡ cues → frame ≡ at
    → IsFirstOtherService own frame windows first → IsFirstOtherService cues at windows first
services_found cues own frame at windows first same is found =
    subst (λ n. IsFirstOtherService cues n windows first) is (subst (λ (cs : List Cue). IsFirstOtherService cs frame windows first) same found)

pub services_know : (cues own : List Cue) (frame at : ℕ) (windows : AllSeenWindows) (checks : ServiceChecks) → own ≡ cues → frame ≡ at
    → KnowServices own frame windows checks → KnowServices cues at windows checks
services_know cues own frame at windows checks same is knows =
    subst (λ n. KnowServices cues n windows checks) is (subst (λ (cs : List Cue). KnowServices cs frame windows checks) same knows)

pub services_stand : (cues own : List Cue) (frame : ℕ) (checks : ServiceChecks) → own ≡ cues → StandAt cues frame checks → StandAt own frame checks
services_stand cues own frame checks same stand = subst (λ (cs : List Cue). StandAt cs frame checks) (sym same) stand
