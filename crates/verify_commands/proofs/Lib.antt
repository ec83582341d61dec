pub mod AnswerLemmas
pub mod FoundLemmas
pub mod VerdictLemmas
pub mod VerifyingLemmas
pub mod DecidedLemmas
pub mod EveryLemmas
