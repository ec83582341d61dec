pub mod ConvertingLemmas
pub mod AnswerLemmas
pub mod VerdictLemmas
pub mod EveryLemmas
