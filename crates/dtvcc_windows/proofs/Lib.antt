pub mod CellLemmas
pub mod SizeLemmas
pub mod PartLemmas
pub mod SameLemmas
pub mod ShowingLemmas
