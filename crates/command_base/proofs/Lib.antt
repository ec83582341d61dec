pub mod CountLemmas
pub mod RealisedLemmas
pub mod MadeLemmas
pub mod BesideLemmas
pub mod ExactLemmas
pub mod OneLemmas
pub mod JudgedLemmas
pub mod WholeInputLemmas
