pub mod GridLemmas
pub mod CodeLemmas
pub mod MeaningLemmas
pub mod LawLemmas
pub mod WindowLemmas
pub mod MemoryLemmas
pub mod DifferenceLemmas
