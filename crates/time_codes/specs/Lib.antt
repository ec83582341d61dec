pub mod TimeCodes
pub mod Frames
pub mod Countings
pub mod Texts
