-- Believed in part: the program's answer stands on some of these definitions.
-- The slots of field 2 that the captions of CC3 leave free, at every rate.
use Rattle.std.specs.Prelude.{ℕ, ◌&&◌, Bool, not, nat_le, nat_lt, List}
use Rattle.std.specs.List.{list_any}
use Rattle.cue_lists.specs.Listing.{IsFormed, Listing}
use Rattle.cue_lists.specs.Rules.{IsRuled}
use Rattle.cue_lists.specs.declared.cue.Cue.{Cue}
use Rattle.line21_author.specs.Channels.{is_on}
use Rattle.line21_author.specs.CueEvents.{channel_events}
use Rattle.line21_codes.specs.NullPairs.{is_null}
use Rattle.line21_codes.specs.declared.channels.Chan.{Chan}
use Rattle.line21_codes.specs.declared.channels.Chan.TheVariants.{Cc3}
use Rattle.cue_lists.specs.Cadences.{cadence_of, slot_frame}
use Rattle.lanes.specs.ChannelLane.{IsChannelPlaced, channel_chunks, channel_slot}
use Rattle.lanes.specs.LaneTimeline.{lane_timeline}
use Rattle.frame_carrier.specs.SlotLists.{slot_cues}
use Rattle.lanes.specs.Timeline.{Timeline}
use Rattle.xds_frames.specs.PacketTimeline.{LeaveFree}
use Rattle.lanes.specs.LaneEvents.{event_at}

-- the frame lies in the time from LOAD up to SHOW of a cue on the channel
abbrev pub is_loading : Chan → List Cue → ℕ → Bool
is_loading channel cues frame = list_any (λ cue. is_on channel cue.kind && (nat_le cue.load frame && nat_lt frame cue.show)) cues

-- the frame of a slot of field 2
abbrev pub frame_of_slot : Listing → ℕ → ℕ
frame_of_slot list n = slot_frame (cadence_of list.rate Cc3) n

-- what begins in each slot of field 2, where the units of CC3 stand in these slots
abbrev pub captions_of : Listing → List ℕ → Timeline
captions_of list slots = lane_timeline (event_at (channel_events Cc3 (slot_cues list Cc3))) (channel_chunks Cc3 (slot_cues list Cc3)) slots

-- a slot is free where its frame lies in no such time of a CC3 cue and its pair is null
abbrev pub free_in : Listing → List ℕ → ℕ → Bool
free_in list slots n = not (is_loading Cc3 list.cues (frame_of_slot list n)) && is_null (channel_slot Cc3 (slot_cues list Cc3) slots n)

-- so it is for every list that keeps the rules and has a placement
abbrev pub CaptionsLeaveFree : Type 0
CaptionsLeaveFree = (list : Listing) (slots : List ℕ) → IsFormed list → IsRuled list → IsChannelPlaced Cc3 (slot_cues list Cc3) slots
    → LeaveFree (captions_of list slots) (free_in list slots)
