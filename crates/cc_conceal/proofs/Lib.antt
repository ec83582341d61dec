pub mod PairLemmas
pub mod HeardLemmas
pub mod FoldLemmas
pub mod TakeLemmas
pub mod StillLemmas
pub mod LawLemmas
pub mod CutLemmas
pub mod StayLemmas
