pub mod FormLemmas
pub mod PackedLemmas
pub mod PacketOffences
pub mod ReadLemmas
pub mod WriterLemmas
