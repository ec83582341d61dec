pub mod LoadList
pub mod LoadLaws
pub mod LoadOutput
pub mod LoadVerdict
pub mod Receiving
