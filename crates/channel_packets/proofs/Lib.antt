pub mod CutLemmas
pub mod LawLemmas
pub mod ReadLemmas
pub mod WrittenLemmas
