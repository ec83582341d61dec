pub use Rattle.cue_list_commands.proofs.EveryLemmas
pub use Rattle.cue_list_commands.proofs.ListVerdictLemmas
mod AnswerLemmas
pub mod VerdictLemmas
mod AcceptedLemmas
mod BesideAnswerLemmas
pub mod BesideVerdictLemmas
mod GoesBesideLemmas
