pub mod AsciiUnits
pub mod WritableLemmas
pub mod SpelledLemmas
pub mod LatestLemmas
pub mod PackedLemmas
