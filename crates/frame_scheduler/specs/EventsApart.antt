-- Between crates: the program's answer stands on none of these definitions.
-- The events of a channel of a cue list that keeps the rules lie apart: each is sent in two slots, and
-- no two need one slot (CTA-608-E, control codes are sent twice).
use Rattle.line21_codes.specs.declared.channels.Chan.{Chan}
use Rattle.cue_lists.specs.Listing.{Listing, IsFormed}
use Rattle.cue_lists.specs.Rules.{IsRuled}
use Rattle.lanes.specs.CueEvents.{channel_events}
use Rattle.lanes.specs.EventOrder.{AreApart}
use Rattle.frame_scheduler.specs.SlotLists.{slot_cues}

-- for every list and channel
abbrev pub EventsAreApart : Type 0
EventsAreApart = (list : Listing) → IsFormed list → IsRuled list → (channel : Chan)
    → AreApart (channel_events channel (slot_cues list channel))
