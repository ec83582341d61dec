-- The cues of each lane of a list keep the rules exactly where no cue of it has a fault.
use Rattle.std.proofs.Common.{◌≡◌, ℕ, Bool, true, false, cond, All, List, [], ◌∷◌, reverse, Some, None, refl, sym, subst, ◌∙◌}
use Rattle.std.specs.List.{AllByRecursion}
use Rattle.std.proofs.lemmas.List.Elements.{All-head, All-tail, recursion_from_All}
use Rattle.line21_codes.specs.declared.channels.Chan.{Chan}
use Rattle.line21_codes.specs.declared.channels.Chan.TheVariants as chan
use Rattle.cue_types.specs.Lane.{same_channel}
use Rattle.cue_types.specs.Channels.{cues_of_service, cues_on, is_of_service, is_on}
use Rattle.cue_types.specs.Listing.{Listing}
use Rattle.cue_lists.specs.Rules.Tests.{AreFaultless, fault_of}
use Rattle.cue_lists.specs.Rules.Sentences.{AreLanesRuled, ComesAfter, IsOnSlots}
use Rattle.line21_slots.specs.Cadences.{cadence_of, slot_step}
use Rattle.cue_types.specs.declared.cue.Cue.{Cue}
use Rattle.cue_types.specs.declared.cue.Kind.{Kind}
use Rattle.cue_types.specs.declared.cue.Kind.TheVariants as kind
use Rattle.cue_lists.proofs.ChannelCues.{All-reverse, former_on, line21_on}
use Rattle.cue_lists.proofs.LaneCues.{newest}
use Rattle.cue_lists.proofs.ChannelKept.{channel_cue_faultless}
use Rattle.cue_lists.proofs.ChannelRules.{AreInSequenceBack, all_on_back, all_on_from_back, faultless_on_slots, IsBehind, faultless_sequence, sequence_back, sequence_from_back}
use Rattle.cue_lists.proofs.RuleTests.{equal_itself}
use Rattle.cue_lists.proofs.ServiceRules.{AreInServiceBack, HidesWindow, faultless_service, service_cue_faultless, service_from_back, service_to_back}

-- where no cue has a fault, the cues of each lane keep the rules
pub faultless_lanes : (list : Listing) → AreFaultless list (reverse list.cues) → AreLanesRuled list
faultless_lanes list faultless = record {
  channels = λ channel. sequence_from_back (slot_step list.rate) list.frames channel list.cues (faultless_sequence list channel (reverse list.cues) faultless);
  on_slots = λ channel. all_on_from_back (IsOnSlots (cadence_of list.rate channel)) channel list.cues (faultless_on_slots list channel (reverse list.cues) faultless);
  services = λ service. service_from_back list service list.cues (faultless_service list service (reverse list.cues) faultless);
}

-- a channel is itself
same_channel_refl : (channel : Chan) → same_channel channel channel ≡ true
same_channel_refl chan.Cc1 = refl
same_channel_refl chan.Cc2 = refl
same_channel_refl chan.Cc3 = refl
same_channel_refl chan.Cc4 = refl

-- a cue is on a channel, or of a service
lane_cases : (k : Kind) (P : Type 0) → ((channel : Chan) → is_on channel k ≡ true → P)
    → ((service : ℕ) → is_of_service service k ≡ true → P) → P
lane_cases (kind.Pop channel) P line21 window = line21 channel (same_channel_refl channel)
lane_cases (kind.Paint channel) P line21 window = line21 channel (same_channel_refl channel)
lane_cases (kind.Roll channel rows) P line21 window = line21 channel (same_channel_refl channel)
lane_cases (kind.Win w) P line21 window = window w.service (equal_itself w.service)

-- the former cue of a cue that is after the newest on its channel
after_newest : (step : ℕ) (cues : List Cue) (cue former : Cue) → IsBehind step cues cue → newest cues ≡ Some former → ComesAfter step former cue
after_newest step [] cue former behind is = cc
after_newest step (first ∷ cues) cue former behind is =
    let same : first ≡ former = cc in subst (λ (c : Cue). ComesAfter step c cue) same behind

-- what holds of the cues of a lane with one cue more, where the cue is on it, and where it isn't
abbrev ChannelsHold : Listing → List Cue → Type 0
ChannelsHold list cues = (channel : Chan) → AreInSequenceBack (slot_step list.rate) list.frames (cues_on channel cues)

abbrev SlotsHold : Listing → List Cue → Type 0
SlotsHold list cues = (channel : Chan) → All (IsOnSlots (cadence_of list.rate channel)) (cues_on channel cues)

abbrev ServicesHold : Listing → List Cue → Type 0
ServicesHold list cues = (service : ℕ) → AreInServiceBack list service (cues_of_service service cues)

channels_rest : (list : Listing) (cue : Cue) (earlier : List Cue) → ChannelsHold list (cue ∷ earlier) → ChannelsHold list earlier
channels_rest list cue earlier hold channel = by_test (is_on channel cue.kind) (hold channel)
  where
    by_test : (b : Bool) → AreInSequenceBack (slot_step list.rate) list.frames (cond b (cue ∷ cues_on channel earlier) (cues_on channel earlier))
        → AreInSequenceBack (slot_step list.rate) list.frames (cues_on channel earlier)
    by_test true whole = whole.2
    by_test false whole = whole

slots_rest : (list : Listing) (cue : Cue) (earlier : List Cue) → SlotsHold list (cue ∷ earlier) → SlotsHold list earlier
slots_rest list cue earlier hold channel = by_test (is_on channel cue.kind) (hold channel)
  where
    P : Cue → Type 0
    P = IsOnSlots (cadence_of list.rate channel)

    by_test : (b : Bool) → All P (cond b (cue ∷ cues_on channel earlier) (cues_on channel earlier)) → All P (cues_on channel earlier)
    by_test true whole = All-tail P cue (cues_on channel earlier) whole
    by_test false whole = whole

slots_first : (list : Listing) (cue : Cue) (earlier : List Cue) (channel : Chan) → is_on channel cue.kind ≡ true
    → All (IsOnSlots (cadence_of list.rate channel)) (cues_on channel (cue ∷ earlier)) → IsOnSlots (cadence_of list.rate channel) cue
slots_first list cue earlier channel on hold = by_test (is_on channel cue.kind) on hold
  where
    P : Cue → Type 0
    P = IsOnSlots (cadence_of list.rate channel)

    by_test : (b : Bool) → b ≡ true → All P (cond b (cue ∷ cues_on channel earlier) (cues_on channel earlier)) → P cue
    by_test true yes' whole = All-head P cue (cues_on channel earlier) whole
    by_test false no' whole = cc

services_rest : (list : Listing) (cue : Cue) (earlier : List Cue) → ServicesHold list (cue ∷ earlier) → ServicesHold list earlier
services_rest list cue earlier hold service = by_test (is_of_service service cue.kind) (hold service)
  where
    by_test : (b : Bool)
        → AreInServiceBack list service (cond b (cue ∷ cues_of_service service earlier) (cues_of_service service earlier))
        → AreInServiceBack list service (cues_of_service service earlier)
    by_test true whole = whole.2
    by_test false whole = whole

on_channel : (list : Listing) (cue : Cue) (earlier : List Cue) (channel : Chan) → is_on channel cue.kind ≡ true
    → AreInSequenceBack (slot_step list.rate) list.frames (cues_on channel (cue ∷ earlier)) → IsOnSlots (cadence_of list.rate channel) cue → fault_of list earlier cue ≡ None
on_channel list cue earlier channel on hold slots = by_test (is_on channel cue.kind) on hold
  where
    by_test : (b : Bool) → b ≡ true → AreInSequenceBack (slot_step list.rate) list.frames (cond b (cue ∷ cues_on channel earlier) (cues_on channel earlier))
        → fault_of list earlier cue ≡ None
    by_test true yes' whole =
        channel_cue_faultless list earlier cue (line21_on channel cue.kind on) whole.0
        (λ former is. after_newest (slot_step list.rate) (cues_on channel earlier) cue former whole.1 (sym (former_on channel cue earlier on) ∙ is)) channel on slots
    by_test false no' whole = cc

of_its_service : (list : Listing) (cue : Cue) (earlier : List Cue) (service : ℕ) → is_of_service service cue.kind ≡ true
    → AllByRecursion HidesWindow earlier → AreInServiceBack list service (cues_of_service service (cue ∷ earlier))
    → fault_of list earlier cue ≡ None
of_its_service list cue earlier service on hides hold = by_test (is_of_service service cue.kind) on hold
  where
    by_test : (b : Bool) → b ≡ true
        → AreInServiceBack list service (cond b (cue ∷ cues_of_service service earlier) (cues_of_service service earlier))
        → fault_of list earlier cue ≡ None
    by_test true yes' whole = service_cue_faultless list service earlier cue on hides whole.0 whole.1
    by_test false no' whole = cc

-- where the cues of each lane keep the rules, none has a fault
none_faulty : (list : Listing) (cues : List Cue) → AllByRecursion HidesWindow cues → ChannelsHold list cues → SlotsHold list cues → ServicesHold list cues
    → AreFaultless list cues
none_faulty list [] hides channels slots services = tt
none_faulty list (cue ∷ earlier) hides channels slots services = (
  lane_cases cue.kind (fault_of list earlier cue ≡ None)
      (λ channel on. on_channel list cue earlier channel on (channels channel) (slots_first list cue earlier channel on (slots channel)))
      (λ service on. of_its_service list cue earlier service on hides.1 (services service)),
  none_faulty list earlier hides.1 (channels_rest list cue earlier channels) (slots_rest list cue earlier slots) (services_rest list cue earlier services),
)

-- and where they do, no cue has a fault
pub lanes_faultless : (list : Listing) → All HidesWindow list.cues → AreLanesRuled list → AreFaultless list (reverse list.cues)
lanes_faultless list hides ruled =
    none_faulty list (reverse list.cues)
    (recursion_from_All HidesWindow (reverse list.cues) (All-reverse HidesWindow list.cues hides))
    (λ channel. sequence_back (slot_step list.rate) list.frames channel list.cues (ruled.channels channel))
    (λ channel. all_on_back (IsOnSlots (cadence_of list.rate channel)) channel list.cues (ruled.on_slots channel))
    (λ service. service_to_back list service list.cues (ruled.services service))
