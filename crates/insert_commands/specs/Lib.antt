pub mod Captions
pub mod InsertedFile
pub mod Soundness
pub mod InsertVerdict
pub mod InsertSteps
pub mod CanCarry
pub mod ListCaptions
