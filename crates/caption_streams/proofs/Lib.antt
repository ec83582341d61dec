pub mod BuilderLemmas
pub mod ReceptionLemmas
