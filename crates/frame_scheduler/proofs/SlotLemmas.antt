-- A list that keeps the rules, in slots.
use Rattle.std.proofs.Common.{ℕ, All, sym, subst}
use Rattle.std.proofs.lemmas.List.Elements.{recursion_from_All}
use Rattle.line21_codes.specs.declared.channels.Chan.{Chan}
use Rattle.cue_lists.specs.Cadences.{cadence_of, slot_from, step_of}
use Rattle.cue_lists.proofs.CadenceLemmas.{slot_step_is}
use Rattle.cue_lists.specs.Channels.{cues_on}
use Rattle.cue_lists.specs.Cues.{IsCueFormed}
use Rattle.cue_lists.specs.Listing.{IsFormed, Listing}
use Rattle.cue_lists.specs.Rules.{IsRuled}
use Rattle.cue_lists.proofs.RulesSaid.{lanes_ruled}
use Rattle.cue_lists.specs.Rules.Sentences.{AreInSequence, IsOnSlots}
use Rattle.lanes.proofs.CueSlotLemmas.{cues_formed_in_slots, cues_on_slots}
use Rattle.lanes.proofs.SlotSequenceLemmas.{AreInSlots, in_slots}
use Rattle.frame_scheduler.specs.SlotLists.{slot_cues, slots_in_list}

-- the cues of a channel, in frames
pub ruled_sequence : (list : Listing) → IsRuled list → (channel : Chan) → AreInSequence (step_of (cadence_of list.rate channel)) list.frames (cues_on channel list.cues)
ruled_sequence list ruled channel =
    subst (λ (step : ℕ). AreInSequence step list.frames (cues_on channel list.cues)) (slot_step_is list.rate channel) ((lanes_ruled list ruled).channels channel)

-- and in slots
pub slot_sequence : (list : Listing) → IsRuled list → (channel : Chan) → AreInSlots (slots_in_list list channel) (cues_on channel (slot_cues list channel))
slot_sequence list ruled channel =
    let c = cadence_of list.rate channel in
    subst (AreInSlots (slot_from c list.frames)) (sym (cues_on_slots c channel list.cues))
    (in_slots c list.frames (cues_on channel list.cues) (ruled_sequence list ruled channel)
    (recursion_from_All (IsOnSlots c) (cues_on channel list.cues) ((lanes_ruled list ruled).on_slots channel)))

-- the cues in slots are in their ranges
pub slot_cues_formed : (list : Listing) → IsFormed list → (channel : Chan) → All IsCueFormed (slot_cues list channel)
slot_cues_formed list formed channel = cues_formed_in_slots (cadence_of list.rate channel) list.cues formed.cues
