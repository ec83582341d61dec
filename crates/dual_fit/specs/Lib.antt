pub mod Timed
pub mod FittedBeside
pub mod Tries
pub mod FitLaws
