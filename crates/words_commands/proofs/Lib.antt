pub use Rattle.words_reading.proofs.PieceLemmas
mod ConcealingLemmas
mod PacketLinesLemmas
pub mod PrintingLemmas
mod AnswerLemmas
pub mod VerdictLemmas
