pub mod SoundLemmas
pub mod MadeLemmas
pub mod PairLemmas
pub mod VerdictLemmas
pub mod JudgedLemmas
pub mod EveryLemmas
