-- The cues of a service: their kinds, and the former cue of each among them.
use Rattle.std.proofs.Common.{◌≡◌, ℕ, true, List, refl, sym, ap}
use Rattle.std.specs.List.{AllByRecursion}
use Rattle.std.proofs.lemmas.Bool.{eqb-true}
use Rattle.std.proofs.lemmas.List.Elements.{filter_passes, recursion_from_All}
use Rattle.cue_types.specs.Channels.{cues_of_service, is_of_service}
use Rattle.cue_lists.specs.Rules.Former.{former_cue}
use Rattle.cue_types.specs.Lane.{is_win, kind_lane}
use Rattle.cue_types.specs.declared.cue.Cue.{Cue}
use Rattle.cue_types.specs.declared.cue.Kind.{Kind}
use Rattle.cue_types.specs.declared.cue.Kind.TheVariants as kind
use Rattle.cue_types.specs.declared.lane.Lane.TheVariants as lane
use Rattle.cue_lists.proofs.LaneCues.{former_on_lane, newest}

-- a cue of a service has the service for its lane
lane_of_service : (service : ℕ) (k : Kind) → is_of_service service k ≡ true → kind_lane k ≡ lane.Service service
lane_of_service service (kind.Pop channel) on = cc
lane_of_service service (kind.Paint channel) on = cc
lane_of_service service (kind.Roll channel rows) on = cc
lane_of_service service (kind.Win window) on = ap lane.Service (sym (eqb-true service window.service on))

-- a cue of a service is a window cue
pub window_of_service : (service : ℕ) (k : Kind) → is_of_service service k ≡ true → is_win k ≡ true
window_of_service service (kind.Pop channel) on = cc
window_of_service service (kind.Paint channel) on = cc
window_of_service service (kind.Roll channel rows) on = cc
window_of_service service (kind.Win window) on = refl

-- the former cue of a cue of a service is the newest one of the service
pub former_of_service : (service : ℕ) (cue : Cue) (earlier : List Cue) → is_of_service service cue.kind ≡ true
    → former_cue cue earlier ≡ newest (cues_of_service service earlier)
former_of_service service cue earlier on = former_on_lane (lane.Service service) cue earlier (lane_of_service service cue.kind on)

-- the cues of a service are of it
pub cues_are_of_service : (service : ℕ) (cues : List Cue)
    → AllByRecursion (λ (cue : Cue). is_of_service service cue.kind ≡ true) (cues_of_service service cues)
cues_are_of_service service cues =
    recursion_from_All (λ (cue : Cue). is_of_service service cue.kind ≡ true) (cues_of_service service cues)
    (filter_passes (λ (cue : Cue). is_of_service service cue.kind) cues)
