-- Believed: the program's answer stands on these definitions.
-- A cue list in slots: on each channel, the cues with their times in slots of the channel's field.
use Rattle.std.specs.Prelude.{ℕ, List}
use Rattle.line21_codes.specs.declared.channels.Chan.{Chan}
use Rattle.cue_lists.specs.Cadences.{cadence_of, slot_from}
use Rattle.cue_lists.specs.Listing.{Listing}
use Rattle.cue_lists.specs.declared.cue.Cue.{Cue}
use Rattle.lanes.specs.CueSlots.{cues_in_slots}

-- the cues of a list, their times in slots of a channel's field
abbrev pub slot_cues : Listing → Chan → List Cue
slot_cues list channel = cues_in_slots (cadence_of list.rate channel) list.cues

-- the number of slots of a channel's field in the frames of a list
abbrev pub slots_in_list : Listing → Chan → ℕ
slots_in_list list channel = slot_from (cadence_of list.rate channel) list.frames
