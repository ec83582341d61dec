pub mod CueSlotLemmas
pub mod SlotSequenceLemmas
pub mod TextCodesLemmas
pub mod RunCodesLemmas
pub mod CueCodesLemmas
pub mod CueUnitsLemmas
pub mod CueEventsLemmas
