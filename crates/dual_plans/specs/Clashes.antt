-- Believed in part: the program's answer stands on some of these definitions.
-- Clashes of two cue lists: events of both hold one slot of a field, each the one in which it begins and the next one (CTA-608-E,
-- control codes are sent twice).
use Rattle.std.specs.Prelude.{◌≡◌, ◌⊎◌, ℕ, ◌+◌, ◌≤◌, ◌==◌, ◌&&◌, ◌||◌, nat_le, nat_lt, Bool, true, false, if◌then◌else◌, List, [], ◌∷◌, Option, Some, None}
use Rattle.line21_codes.specs.declared.channels.Chan.{Chan}
use Rattle.line21_codes.specs.declared.channels.FieldNumber.{FieldNumber}
use Rattle.cue_lists.specs.Listing.{Listing}
use Rattle.line21_author.specs.CueEvents.{channel_events}
use Rattle.lanes.specs.LaneEvents.{event_at}
use Rattle.frame_carrier.specs.Planned.{authored_channel}
use Rattle.frame_carrier.specs.SlotLists.{slot_cues}
use Rattle.dual_fields.specs.FieldSlots.{holds}
use Rattle.dual_plans.specs.CueEvents.{events_from}
use Rattle.dual_plans.specs.declared.clash.Clash.{Clash}
use Rattle.dual_plans.specs.declared.cue_event.CueEvent.{CueEvent}

-- an event of the cue of this number holds the slot
abbrev pub HoldsFor : List CueEvent → ℕ → ℕ → Type 0
HoldsFor [] cue n = ⊥
HoldsFor (event ∷ events) cue n = ((event.cue ≡ cue) × (event.slot ≤ n) × (n ≤ event.slot + 1)) ⊎ HoldsFor events cue n

-- events of these cues, of the second list and of the first, hold one slot
pub record IsClash (firsts seconds : List CueEvent) (second first : ℕ) : Type 0 where
  pub slot : ℕ
  pub of_first : HoldsFor firsts first slot
  pub of_second : HoldsFor seconds second slot

-- the events of a list on a channel
abbrev pub list_events : Listing → Chan → List CueEvent
list_events list channel = events_from channel 1 (slot_cues list channel)

-- so it is in either field
abbrev pub IsFieldClash : Listing → Listing → ℕ → ℕ → Type 0
IsFieldClash one two second first =
    (in_field : FieldNumber) × IsClash (list_events one (authored_channel in_field)) (list_events two (authored_channel in_field)) second first

-- the cues clash; no lower cue of the second list does, and no lower one of the first list with that
pub record IsLeastClash (Clashes : ℕ → ℕ → Type 0) (clash : Clash) : Type 0 where
  pub clashes : Clashes clash.second clash.first
  pub least : (second first : ℕ) → Clashes second first → clash.second ≤ second
  pub least_first : (first : ℕ) → Clashes clash.second first → clash.first ≤ first

-- it is the least one, or there is none
abbrev pub IsLeast : (ℕ → ℕ → Type 0) → Option Clash → Type 0
IsLeast Clashes (Some clash) = IsLeastClash Clashes clash
IsLeast Clashes None = (second first : ℕ) → Clashes second first → ⊥

-- of any two lists there is a least one, or none
abbrev pub ALeastClashIsThereOrNone : Type 0
ALeastClashIsThereOrNone = (one two : Listing) → (clash : Option Clash) × IsLeast (IsFieldClash one two) clash

-- the order of clashes
abbrev pub is_no_later : Clash → Clash → Bool
is_no_later one two = nat_lt one.second two.second || (one.second == two.second && nat_le one.first two.first)

abbrev pub earlier : Option Clash → Option Clash → Option Clash
earlier None two = two
earlier (Some one) None = Some one
earlier (Some one) (Some two) = if is_no_later one two then Some one else Some two

-- where no cues clash, no slot is held by both lists
abbrev pub NoSlotIsSharedUnlessCuesClash : Type 0
NoSlotIsSharedUnlessCuesClash = (one two : Listing) → ((second first : ℕ) → IsFieldClash one two second first → ⊥)
    → (in_field : FieldNumber) (n : ℕ)
    → holds (event_at (channel_events (authored_channel in_field) (slot_cues one (authored_channel in_field)))) n ≡ true
    → holds (event_at (channel_events (authored_channel in_field) (slot_cues two (authored_channel in_field)))) n ≡ false
