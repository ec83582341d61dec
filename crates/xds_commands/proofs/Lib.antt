pub mod SoundLemmas
pub mod MadeLemmas
pub mod NoPacketsLemmas
pub mod PacketListLemmas
pub mod VerdictLemmas
pub mod PacketJudgedLemmas
pub mod EveryLemmas
