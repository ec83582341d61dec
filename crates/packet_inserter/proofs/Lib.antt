pub mod WalkLemmas
pub mod InsertionLemmas
pub mod OneWayLemmas
