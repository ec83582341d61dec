pub mod FedLemmas
pub mod GridLemmas
pub mod LooseValues
pub mod PacketLemmas
pub mod PointerValues
