mod AdapterLemmas
pub mod Bytes
pub mod Puts
pub mod ReachedLemmas
pub mod ReadingLemmas
pub mod StepLemmas
pub mod SyntaxLemmas
pub mod Takes
pub mod Underway
