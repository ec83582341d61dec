pub mod SegmentLemmas
pub mod EndLemmas
pub mod OneByOneLemmas
pub mod ReaderLemmas
pub mod FollowLemmas
pub mod CarriedLemmas
pub mod UnfinishedLemmas
pub mod PlacesLemmas
