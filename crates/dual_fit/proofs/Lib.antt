pub mod TogetherLemmas
pub mod TimedLemmas
pub mod EarlyLemmas
pub mod BesideLemmas
pub mod OneLemmas
pub mod MisfitLemmas
pub mod StandLemmas
pub mod DecidedLemmas
