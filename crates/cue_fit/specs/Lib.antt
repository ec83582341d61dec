pub mod Shown
pub mod Fitted
pub mod Tries
