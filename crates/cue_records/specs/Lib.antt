pub mod RecordEnds
pub mod RecordsCut
pub mod CueApart
pub mod CueReading
pub mod CueSpelled
