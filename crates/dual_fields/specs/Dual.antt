-- Believed in part: the program's answer stands on some of these definitions.
-- What a viewer sees of the frames of two cue lists: each field carries a channel of both.
use Rattle.std.specs.Prelude.{◌≡◌, ℕ, List, Option, option_map, true, false}
use Rattle.line21_codes.specs.declared.channels.Chan.{Chan}
use Rattle.line21_codes.specs.Channels.{field_of_channel}
use Rattle.line21_screen.specs.Fields.{FieldState}
use Rattle.cue_lists.specs.AuthoredGrid.{IsSettled, authored_grid}
use Rattle.cue_lists.specs.Listing.{IsFormed, Listing}
use Rattle.cue_lists.specs.Rules.{IsRuled}
use Rattle.cue_lists.specs.Cadences.{cadence_of, slot_in}
use Rattle.line21_shown.specs.Columns.{Columns, pair_in}
use Rattle.line21_shown.specs.SlotLists.{slot_cues}
use Rattle.lanes.specs.Timeline.{slot}
use Rattle.line21_shown.specs.Shown.{state_at}
use Rattle.dual_fields.specs.ResumedLane.{Stand}
use Rattle.dual_fields.specs.Spans.{in_spans}
use Rattle.dual_fields.specs.ChannelParts.{channel_parts}
use Rattle.dual_fields.specs.Seen.{field_timeline, first_events, second_events, second_parts}
use Rattle.dual_fields.specs.FieldSlots.{first_slots, holds, second_slots}

-- the units of both lists in a channel's field: where they stand, and where first units come again
pub record Places : Type 0 where
  pub first : List ℕ
  pub first_again : List (Option ℕ)
  pub second : List ℕ
  pub second_again : List (Option ℕ)

-- both lists keep the rules, and in the field of the channel no slot is held twice and the units are placed
pub record IsDual (first second : Listing) (of_list : Chan) (places : Places) : Type 0 where
  pub formed : IsFormed first
  pub ruled : IsRuled first
  pub second_formed : IsFormed second
  pub second_ruled : IsRuled second
  pub rate : second.rate ≡ first.rate
  pub frames : second.frames ≡ first.frames
  pub clash : (n : ℕ) → holds (first_events of_list (slot_cues first of_list)) n ≡ true → holds (second_events of_list (slot_cues second of_list)) n ≡ false
  pub stand : Stand (first_slots (first_events of_list (slot_cues first of_list)) (second_events of_list (slot_cues second of_list))) 0
      (channel_parts of_list (slot_cues first of_list)) places.first places.first_again
  pub beside : Stand (second_slots (first_events of_list (slot_cues first of_list)) (second_events of_list (slot_cues second of_list))
      (in_spans (channel_parts of_list (slot_cues first of_list)) places.first)) 0
      (second_parts (field_of_channel of_list) (channel_parts of_list (slot_cues second of_list))) places.second places.second_again

-- the frames have the pairs of the field
abbrev pub HavePairs : Listing → Listing → Chan → Places → Columns → Type 0
HavePairs first second of_list places columns = (frame : ℕ) → pair_in (field_of_channel of_list) (columns frame)
    ≡ option_map (slot (field_timeline of_list (slot_cues first of_list) (slot_cues second of_list) places.first places.second places.first_again places.second_again))
    (slot_in (cadence_of first.rate of_list) frame)

-- at a frame that is settled for it each channel of the field shows what its own list authors
pub record ShowsBoth (first second : Listing) (of_list : Chan) (state : FieldState) (frame : ℕ) : Type 0 where
  pub first_shown : IsSettled of_list first.cues frame → state.first.displayed ≡ authored_grid of_list first.cues frame
  pub second_shown : IsSettled of_list second.cues frame → state.second.displayed ≡ authored_grid of_list second.cues frame

-- so it is at each frame, at every rate
abbrev pub BothAreSeen : Type 0
BothAreSeen = (first second : Listing) (of_list : Chan) (places : Places) (columns : Columns) → IsDual first second of_list places
    → HavePairs first second of_list places columns → (frame : ℕ) → ShowsBoth first second of_list (state_at (field_of_channel of_list) columns frame) frame
